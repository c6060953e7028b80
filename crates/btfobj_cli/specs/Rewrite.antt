-- A file that is rewritten for a kernel.
use Rattle.std.specs.Prelude.{◌≡◌, ℕ, List, Ok, Option, MatchBool}
use Rattle.std.specs.Option.{option_map}
use Rattle.btf_model.specs.Blob.{IsTable, canon}
use Rattle.btf_model.specs.Table.{Table, strip}
use Rattle.btf_model.specs.declared.endianness.Endianness.{Endianness}
use Rattle.btf_rewrite_model.specs.Pass.{no_layout, Asked}
use Rattle.btf_rewrite_model.specs.Rewritten.{Rewritten, pass_of}
use Rattle.btf_rewrite_model.specs.declared.feature.FeatureAnswer.{FeatureAnswer}
use Rattle.btf_rewrite_model.specs.declared.ksyms_ids.KsymsIds.{KsymsIds}
use Rattle.btf_rewrite_model.specs.FeatureSet.{answers_of}
use Rattle.btf_object_model.specs.Ksyms.{FindsKsyms}
use Rattle.btf_object_model.specs.Sanitized.{Target, AreAnswers, IsSanitized}
use Rattle.btf_object_model.specs.SanitizedFinalized.{IsSanitizedFinalized}
use Rattle.btf_object.specs.Errors.{target_of}
use Rattle.btf_object.specs.Kernel.{kernel_has}
use Rattle.btfobj_cli.specs.InputFile.{BeginsObject, BeginsTable}
use Rattle.btfobj_cli.specs.declared.input_file.InputFile.{InputFile}
use Rattle.btfobj_cli.specs.declared.input_file.InputFile.TheVariants.{Object, Table as TableAlone}
use Rattle.btfobj_cli.specs.declared.rewrite.Rewrite.{Rewrite}

-- the target that the settings give
abbrev pub chosen_target : Rewrite → Target
chosen_target rewrite = target_of rewrite.kernel rewrite.policy (option_map (λ name. name.now) rewrite.placeholder)

-- The table, which has no sections and no symbols, is rewritten for the target.
pub record RewritesTable (old : Table) (target : Target) (new : Table) (answers : List FeatureAnswer) : Type 0 where
  pub ids : Option KsymsIds
  pub ksyms : FindsKsyms old target.placeholder (Ok ids)
  pub rewritten : Rewritten target.policy old ids no_layout (answers_of target.has) new
  pub answers_are : AreAnswers target (Asked (pass_of target.policy old ids no_layout answers)) answers

-- The bytes represent a table. The file is the written form of its rewrite for the target, and parses back to that.
pub record RewritesAlone (order : Endianness) (bytes : List ℕ) (target : Target) (file : List ℕ)
    (answers : List FeatureAnswer) : Type 0 where
  pub old : Table
  pub new : Table
  pub ids : Option KsymsIds
  pub table : IsTable order bytes old
  pub ksyms : FindsKsyms old target.placeholder (Ok ids)
  pub rewritten : Rewritten target.policy old ids no_layout (answers_of target.has) new
  pub answers_are : AreAnswers target (Asked (pass_of target.policy old ids no_layout answers)) answers
  pub written : file ≡ canon new
  pub parses_back : IsTable order file (strip new)

-- Whatever bytes represent the table, the file is their rewrite for the target.
abbrev pub RewritesTableAlone : Table → Target → List ℕ → List FeatureAnswer → Type 0
RewritesTableAlone old target file answers =
    (order : Endianness) → (bytes : List ℕ) → IsTable order bytes old → RewritesAlone order bytes target file answers

-- The file is the object with its table rewritten: after it is finalized, or as it is.
abbrev pub RewritesObject : List ℕ → Rewrite → List ℕ → List FeatureAnswer → Type 0
RewritesObject bytes rewrite file answers =
    MatchBool rewrite.is_finalized (IsSanitizedFinalized bytes (kernel_has rewrite.kernel) rewrite.reader file answers)
    (IsSanitized bytes (chosen_target rewrite) file answers)

-- The same for a file that is read: an object, or a table alone.
abbrev pub RewritesFile : InputFile → Rewrite → List ℕ → List FeatureAnswer → Type 0
RewritesFile (Object object) rewrite file answers = RewritesObject object.bytes rewrite file answers
RewritesFile (TableAlone bytes order) rewrite file answers =
    RewritesAlone order bytes.now (chosen_target rewrite) file answers

-- The new file is the old one, rewritten by these settings: an object with its table rewritten, or a table alone.
pub record IsRewritten (bytes : List ℕ) (rewrite : Rewrite) (file : List ℕ) (answers : List FeatureAnswer) : Type 0 where
  pub object : BeginsObject bytes → RewritesObject bytes rewrite file answers
  pub table : (order : Endianness) → BeginsTable order bytes
      → RewritesAlone order bytes (chosen_target rewrite) file answers
