-- An object that is prepared for a kernel: its code is relocated, and then its table is rewritten.
-- Source: libbpf relocates with the table of the object's compiler (`bpf_object__relocate`), and rewrites a copy of it
-- for the kernel (`bpf_object__sanitize_btf`). A rewrite changes kinds, so a record may have no meaning in the new table.
use Rattle.std.specs.Prelude.{◌≡◌, ◌≢◌, ℕ, Bool, List, slice_get, Some}
use Rattle.btf_model.specs.Table.{Table}
use Rattle.btf_elf_model.specs.Object.{Object, IsObject, section_bytes}
use Rattle.btf_elf_model.specs.declared.section_header.SectionHeader.{SectionHeader}
use Rattle.btf_object_model.specs.Sanitized.{Target, IsSanitized, table_name}
use Rattle.btf_rewrite_model.specs.declared.feature.FeatureAnswer.{FeatureAnswer}
use Rattle.btf_loader_model.specs.Loader.{Outcomes, IsRelocated, code_index}

-- The file is the object with its code relocated for a target table, and with the table of this relocated object
-- rewritten for a kernel.
pub record IsPrepared (bytes : List ℕ) (target : Table) (is_shared : Bool) (kernel : Target)
    (outcomes : List (ℕ × Outcomes)) (answers : List FeatureAnswer) (file : List ℕ) : Type 0 where
  pub middle : List ℕ
  pub relocated : IsRelocated bytes target is_shared outcomes middle
  pub sanitized : IsSanitized middle kernel file answers

-- The section of code of a name has the same index, header and bytes in both objects.
pub record KeepsCode (old new : Object) (name : List ℕ) (index : ℕ) (s : SectionHeader) : Type 0 where
  pub same_index : code_index new name ≡ Some index
  pub same_header : slice_get new.sections index ≡ Some s
  pub same_bytes : section_bytes new s ≡ section_bytes old s

-- A rewrite of the table of an object changes no section of code: after it, the code that the records of a name apply
-- to is the code before it.
abbrev pub RelocatedCodeStays : Type 0
RelocatedCodeStays =
    (middle file : List ℕ) (kernel : Target) (answers : List FeatureAnswer) → IsSanitized middle kernel file answers
    → (old : Object) → IsObject middle old
    → (new : Object) × IsObject file new
    × ((name : List ℕ) (index : ℕ) (s : SectionHeader) → name ≢ table_name → code_index old name ≡ Some index
    → slice_get old.sections index ≡ Some s → KeepsCode old new name index s)
