-- Why an object is not rewritten, as the code reports it.
use Rattle.std.specs.Prelude.{◌≡◌, ℕ, ⊤, Bool, List, Option, Some, None, Result}
use Rattle.std.specs.Borrow.{Bor}
use Rattle.std.specs.Option.{option_map}
use Rattle.btf_model.specs.Refusal.{Refusal}
use Rattle.btf_model.specs.Table.{Table}
use Rattle.btf_elf.specs.Writing.{replace_error}
use Rattle.btf_elf.specs.declared.error.ObjectError.{ObjectError}
use Rattle.btf_elf.specs.declared.error.ObjectError.TheVariants as object
use Rattle.btf_elf.specs.declared.error.ReplaceError.{ReplaceError}
use Rattle.btf_elf.specs.declared.error.ReplaceError.TheVariants as replace
use Rattle.btf_elf_model.specs.Object as elf
use Rattle.btf_elf_model.specs.declared.error.ParseError.{ParseError}
use Rattle.btf_elf_model.specs.declared.section_header.SectionHeader.{SectionHeader}
use Rattle.btf_rewrite_model.specs.declared.feature.BtfFeature.{BtfFeature}
use Rattle.btf_rewrite_model.specs.declared.feature.FeatureAnswer.{FeatureAnswer}
use Rattle.btf_rewrite_model.specs.declared.feature.FillPolicy.{FillPolicy}
use Rattle.btf_object_model.specs.Sanitized.{Target, HasSection, RewritesTable, RefusesTable, first_section_index, table_name, AreAnswers}
use Rattle.btf_object_model.specs.SanitizedFinalized.{RewritesFinalized, RefusesFinalized, written_table, takes_placeholder, begun_fault, begun_ids}
use Rattle.btf_table.specs.Checked.{checked}
use Rattle.btf_object_model.specs.declared.reader.TableReader.{TableReader}
use Rattle.btf_plain.specs.Error.{refusal_of}
use Rattle.btf_plain.specs.declared.error.BtfError.{BtfError}
use Rattle.btf_plain.specs.declared.error.BtfError.TheVariants as table
use Rattle.btf_object.specs.Kernel.{kernel_has}
use Rattle.btf_object.specs.declared.kernel.Kernel.{Kernel}
use Rattle.btf_object.specs.declared.error.SanitizeError.{SanitizeError}
use Rattle.btf_object.specs.declared.error.SanitizeError.TheVariants.{Object, NoTable, Table as TableError, Section, OutOfMemory}
use Rattle.btf_model.specs.Blob.{canon}
use Rattle.btf_rewrite_model.specs.Pass.{Layout, Asked}
use Rattle.btf_rewrite_model.specs.Rewritten.{pass_of}
use Rattle.btf_rewrite_model.specs.declared.ksyms_ids.KsymsIds.{KsymsIds}

-- ---- errors of the steps

abbrev pub from_object : ObjectError → SanitizeError
from_object object.OutOfMemory = OutOfMemory
from_object e = Object e

abbrev pub from_table : BtfError → SanitizeError
from_table table.OutOfMemory = OutOfMemory
from_table e = TableError e

abbrev pub of_section : ReplaceError → SanitizeError
of_section replace.OutOfMemory = OutOfMemory
of_section e = Section e

-- ---- reasons

-- the target of a rewrite, by the arguments of a call
abbrev pub target_of : Kernel → FillPolicy → Option (List ℕ) → Target
target_of kernel policy placeholder = record { has = kernel_has kernel; policy = policy; placeholder = placeholder }

-- the same with a placeholder that the code holds
abbrev pub target_for : Kernel → FillPolicy → Option (Bor (List ℕ)) → Target
target_for kernel policy placeholder = target_of kernel policy (option_map (λ name. name.now) placeholder)

-- The answers are the kernel's, to the features that the rewrite of a table asks for.
abbrev pub AnswersPass : Kernel → FillPolicy → Table → Option KsymsIds → Layout → List FeatureAnswer → Type 0
AnswersPass kernel policy old ids layout answers =
    AreAnswers (target_of kernel policy None) (Asked (pass_of policy old ids layout answers)) answers

-- The bytes of a section represent a table, and the written bytes are those of its rewrite.
abbrev pub WritesRewritten : elf.Object → List ℕ → Target → List ℕ → List FeatureAnswer → Type 0
WritesRewritten o bytes target written answers =
    (old new : Table) × RewritesTable o bytes target old new answers × (written ≡ canon new)

-- The bytes represent no object; or the object has no section `.BTF`; or the table of this section is refused; or it is
-- rewritten, and the section cannot be replaced. An allocation may fail in each step.
abbrev pub IsCauseBy : (elf.Object → List ℕ → Refusal → Type 0) → (elf.Object → List ℕ → Type 0) → List ℕ
    → SanitizeError → Type 0
IsCauseBy Refuses Rewrites bytes (Object e) = (p : ParseError) × (e ≡ object.Parse p) × elf.IsParseError bytes p
IsCauseBy Refuses Rewrites bytes NoTable =
    (o : elf.Object) × elf.IsObject bytes o × (first_section_index o table_name ≡ None)
IsCauseBy Refuses Rewrites bytes (TableError e) =
    (o : elf.Object) × (index : ℕ) × (s : SectionHeader) × HasSection bytes table_name o index s
    × ((refusal : Refusal) × (refusal_of e ≡ Some refusal) × Refuses o (elf.section_bytes o s) refusal)
IsCauseBy Refuses Rewrites bytes (Section e) =
    (o : elf.Object) × (index : ℕ) × (s : SectionHeader) × HasSection bytes table_name o index s
    × (Rewrites o (elf.section_bytes o s) × (replace_error o index ≡ Some e))
IsCauseBy Refuses Rewrites bytes OutOfMemory = ⊤

-- The table of a section is refused for a target, or is rewritten for it.
abbrev pub RefusesFor : Target → elf.Object → List ℕ → Refusal → Type 0
RefusesFor target o table refusal = RefusesTable o table target refusal

abbrev pub RewritesFor : Target → elf.Object → List ℕ → Type 0
RewritesFor target o table =
    (old new : Table) × (answers : List FeatureAnswer) × RewritesTable o table target old new answers

-- why an object is not rewritten for a target
abbrev pub IsSanitizeCause : List ℕ → Target → SanitizeError → Type 0
IsSanitizeCause bytes target e = IsCauseBy (RefusesFor target) (RewritesFor target) bytes e

-- The table of a section is refused for a kernel with these features, or is finalized and rewritten for it.
abbrev pub RefusesFinalizedFor : (BtfFeature → Bool) → TableReader → elf.Object → List ℕ → Refusal → Type 0
RefusesFinalizedFor has reader o table refusal = RefusesFinalized o table has reader refusal

abbrev pub RewritesFinalizedFor : (BtfFeature → Bool) → TableReader → elf.Object → List ℕ → Type 0
RewritesFinalizedFor has reader o table =
    (old base new : Table) × (answers : List FeatureAnswer) × RewritesFinalized o table has reader old base new answers

-- why an object is not finalized and rewritten for a kernel with these features
abbrev pub IsFinalizedCause : List ℕ → (BtfFeature → Bool) → TableReader → SanitizeError → Type 0
IsFinalizedCause bytes has reader e = IsCauseBy (RefusesFinalizedFor has reader) (RewritesFinalizedFor has reader) bytes e

-- the ids of `.ksyms` with which the rewrite of a table begins, or why the placeholder does not fit
abbrev pub begins_with : TableReader → (BtfFeature → Bool) → Table → Option KsymsIds → Result (Option KsymsIds) Refusal
begins_with reader has t ids =
    checked (begun_fault (takes_placeholder reader has) t ids) (begun_ids (takes_placeholder reader has) t ids)

-- The blob is that of the table of an object that is finalized and rewritten for a kernel with these features, as this
-- reader gets it.
abbrev pub IsFinalizedBlob : elf.Object → List ℕ → (BtfFeature → Bool) → TableReader → List ℕ → List FeatureAnswer
    → Type 0
IsFinalizedBlob o table has reader blob answers =
    (old base new : Table) × (made : RewritesFinalized o table has reader old base new answers)
    × (blob ≡ canon (written_table reader old base made.ids new))
