-- The object with its table rewritten for a kernel, or why there is none.
-- Source: the kernel's BTF documentation, "ELF File Format Interface", for the section `.BTF`; aya and libbpf rewrite
-- the table for the kernel before a load (`bpf_object__sanitize_btf`).
use Rattle.std.specs.Prelude.{◌≡◌, ◌⊎◌, ℕ, Bool, List, position, slice_get, codes, Option, Some, Ok, Err}
use Rattle.std.specs.List.{AllByRecursion}
use Rattle.std.specs.Str.{bytes_eq}
use Rattle.btf_model.specs.Refusal.{Refusal}
use Rattle.btf_model.specs.Table.{Table, strip}
use Rattle.btf_model.specs.Blob.{IsTable, IsRefusal, canon}
use Rattle.btf_elf_model.specs.Object.{Object, IsObject, section_bytes, section_name}
use Rattle.btf_elf_model.specs.Replaced.{ReplacesSection}
use Rattle.btf_elf_model.specs.declared.section_header.SectionHeader.{SectionHeader}
use Rattle.btf_rewrite_model.specs.Pass.{Asked}
use Rattle.btf_rewrite_model.specs.Passing.{features_of}
use Rattle.btf_rewrite_model.specs.Rewritten.{pass_of, Rewritten, IsRefused}
use Rattle.btf_rewrite_model.specs.declared.feature.BtfFeature.{BtfFeature}
use Rattle.btf_rewrite_model.specs.declared.feature.FeatureAnswer.{FeatureAnswer}
use Rattle.btf_rewrite_model.specs.declared.feature.FillPolicy.{FillPolicy}
use Rattle.btf_rewrite_model.specs.declared.ksyms_ids.KsymsIds.{KsymsIds}
use Rattle.btf_rewrite_model.specs.FeatureSet.{answers_of}
use Rattle.btf_object_model.specs.Ksyms.{FindsKsyms}
use Rattle.btf_object_model.specs.Layout.{object_layout}

-- the name of the section with the table, and the name of the section with function, line and relocation records
abbrev pub table_name : List ℕ
table_name = codes ".BTF"

abbrev pub ext_name : List ℕ
ext_name = codes ".BTF.ext"

-- the index of the first section of a name
abbrev pub first_section_index : Object → List ℕ → Option ℕ
first_section_index o name = position (λ s. bytes_eq (section_name o s) name) o.sections

-- The bytes are an object; the first section of a name has this index and this header.
pub record HasSection (bytes name : List ℕ) (o : Object) (index : ℕ) (s : SectionHeader) : Type 0 where
  pub object : IsObject bytes o
  pub first : first_section_index o name ≡ Some index
  pub header : slice_get o.sections index ≡ Some s

-- The target of a rewrite: the features of the kernel, the policy for DATASECs that have a size and no entries, and the
-- name of the placeholder for functions of `.ksyms`, if there is one.
pub record Target : Type 0 where
  pub has : BtfFeature → Bool
  pub policy : FillPolicy
  pub placeholder : Option (List ℕ)

-- The answers are to the features that the rewrite asks for, and each answer is whether the kernel has the feature.
pub record AreAnswers (target : Target) (asked : List BtfFeature) (answers : List FeatureAnswer) : Type 0 where
  pub of_kernel : AllByRecursion (λ (a : FeatureAnswer). a.granted ≡ target.has a.feature) answers
  pub asked_for : features_of answers ≡ asked

-- The bytes of a section represent a table, and its rewrite is the new table.
pub record RewritesTable (o : Object) (bytes : List ℕ) (target : Target) (old new : Table) (answers : List FeatureAnswer)
    : Type 0 where
  pub ids : Option KsymsIds
  pub table : IsTable o.header.order bytes old
  pub ksyms : FindsKsyms old target.placeholder (Ok ids)
  pub rewritten : Rewritten target.policy old ids (object_layout o) (answers_of target.has) new
  pub answers_are : AreAnswers target (Asked (pass_of target.policy old ids (object_layout o) answers)) answers
  pub written : IsTable o.header.order (canon new) (strip new)

-- The bytes of a section represent no table, or the search for the ids of `.ksyms` fails, or the rewrite is refused.
abbrev pub RefusesTable : Object → List ℕ → Target → Refusal → Type 0
RefusesTable o bytes target refusal =
    IsRefusal o.header.order bytes refusal
    ⊎ ((old : Table) × IsTable o.header.order bytes old × FindsKsyms old target.placeholder (Err refusal))
    ⊎ ((old : Table) × (ids : Option KsymsIds) × IsTable o.header.order bytes old
    × FindsKsyms old target.placeholder (Ok ids)
    × IsRefused target.policy old ids (object_layout o) (answers_of target.has) refusal)

-- The file is the object with its table rewritten for the target: the written form of the new table is in the section
-- of the old one.
pub record IsSanitized (bytes : List ℕ) (target : Target) (file : List ℕ) (answers : List FeatureAnswer) : Type 0 where
  pub object : Object
  pub index : ℕ
  pub header : SectionHeader
  pub section : HasSection bytes table_name object index header
  pub old : Table
  pub new : Table
  pub table : RewritesTable object (section_bytes object header) target old new answers
  pub replaced : (new_object : Object) × IsObject file new_object
      × ReplacesSection object index header (canon new) new_object
