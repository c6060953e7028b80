-- Worked examples of the definitions, computed.
use Rattle.std.specs.Prelude.{◌≡◌, ℕ, ◌&&◌, Bool, List, [], ◌∷◌, ◌++◌, map, position, replicate, Option, Some, None, Ok, Err, is_err, refl, true, false}
use Rattle.std.proofs.Common.{ap, ◌∙◌}
use Rattle.std.specs.Option.{option_and_then, option_or}
use Rattle.btf_model.specs.Text.{text_at}
use Rattle.btf_relocate_model.specs.Modules.{KernelSetting}
use Rattle.std.specs.Str.{bytes_eq}
use Rattle.btf_elf_model.specs.Object.{Object, section_name}
use Rattle.btf_elf_model.specs.Replaced.{shares_bytes}
use Rattle.btf_elf_model.specs.Section.{has_bytes, sht_nobits}
use Rattle.btf_elf_model.specs.declared.section_header.SectionHeader.{SectionHeader}
use Rattle.btf_relocate_model.specs.declared.error.RelocationError.TheVariants.{BadAccess, BadIndex}
use Rattle.btf_relocate_model.specs.declared.instruction.Patched.TheVariants.{Written}
use Rattle.btf_relocate_model.specs.declared.report.Change.TheVariants.{NoField}
use Rattle.btf_relocate_model.specs.declared.report.Matched.TheVariants.{Nothing}
use Rattle.btf_relocate_model.specs.declared.report.Report.{Report}
use Rattle.btf_loader_model.specs.Loader.{code_index, index_at, is_short_at, file_overwritten, any_error, is_unreadable}
use Rattle.btf_loader_model.specs.Refused.{Reason, BadSectionName, SharedPlace, BadRecord, bad_record, shares_place, shared_place, section_reason, reason_when}

two_bytes_in_place : file_overwritten 1 (7 ∷ 8 ∷ []) (1 ∷ 2 ∷ 3 ∷ 4 ∷ []) ≡ 1 ∷ 7 ∷ 8 ∷ 4 ∷ []
two_bytes_in_place = refl

-- a record that was patched, and two with an error
written : Report
written = record { outcome = Ok Written; matched = Nothing; change = NoField }

bad_access : Report
bad_access = record written { outcome = Err BadAccess }

bad_index : Report
bad_index = record written { outcome = Err BadIndex }

-- the second section of records has an error; one that names no section of the object has none
errors_of_records :
    (any_error ((1, Some (written ∷ [])) ∷ (5, Some (written ∷ bad_access ∷ [])) ∷ []) ≡ true)
    × (any_error ((1, Some (written ∷ [])) ∷ (5, None) ∷ []) ≡ false)
unfolding written bad_access
errors_of_records = (refl, refl)

-- in the strings "\0a" the name at 1 has no end
name_without_end : (is_unreadable (0 ∷ 97 ∷ []) (1, []) ≡ true) × (is_unreadable (0 ∷ 97 ∷ 0 ∷ []) (1, []) ≡ false)
name_without_end = (refl, refl)

-- a name of 511 bytes is searched for, and a longer one is not
limit_of_names :
    ((o : Object) → code_index o (replicate 511 97)
    ≡ position (λ s. has_bytes s && bytes_eq (section_name o s) (replicate 511 97)) o.sections)
    × ((o : Object) → code_index o (replicate 512 97) ≡ None)
limit_of_names = (λ o. refl, λ o. refl)

-- so is a name in the table: the zero byte after a name of 511 bytes is among the first 512
limit_of_names_in_the_table :
    (is_short_at (0 ∷ replicate 511 97 ++ 0 ∷ []) 1 ≡ true) × (is_short_at (0 ∷ replicate 512 97 ++ 0 ∷ []) 1 ≡ false)
limit_of_names_in_the_table = (refl, refl)

-- the first record with an error, by its index
first_bad_record :
    (bad_record 5 0 (written ∷ bad_access ∷ bad_index ∷ []) ≡ Some (BadRecord 5 1 BadAccess))
    × (bad_record 5 0 (written ∷ written ∷ []) ≡ None)
unfolding written bad_access bad_index
first_bad_record = (refl, refl)

-- a section of a type that has these bytes of the file
section_with : ℕ → ℕ → ℕ → SectionHeader
section_with kind offset size = record {
  name = 0;
  kind = kind;
  flags = 0;
  address = 0;
  offset = offset;
  size = size;
  link = 0;
  info = 0;
  alignment = 1;
  entry_size = 0;
}

-- whether each of three sections shares its place
sharing : SectionHeader → SectionHeader → SectionHeader → List Bool
sharing s t u = map (shares_place (s ∷ t ∷ u ∷ [])) (0 ∷ 1 ∷ 2 ∷ [])

-- Sections that touch share no byte, and those with one byte in common do. A section shares with one that is inside it.
-- One without bytes in the file, or of size 0, shares with none.
shared_places :
    (sharing (section_with 1 64 8) (section_with 1 72 8) (section_with 1 80 8) ≡ false ∷ false ∷ false ∷ [])
    × (sharing (section_with 1 64 9) (section_with 1 72 8) (section_with 1 80 8) ≡ true ∷ true ∷ false ∷ [])
    × (sharing (section_with 1 64 32) (section_with 1 72 8) (section_with 1 80 8) ≡ true ∷ true ∷ true ∷ [])
    × (sharing (section_with 1 64 8) (section_with sht_nobits 64 8) (section_with 1 68 0) ≡ false ∷ false ∷ false ∷ [])
unfolding sharing section_with shares_bytes
shared_places = (refl, refl, refl, refl)

-- a shared place comes before the errors of records
place_before_records :
    (g : KernelSetting) (o : Object) (name_offset index : ℕ) → is_err (text_at g.local.strings name_offset) ≡ false
    → index_at g o name_offset ≡ Some index → shares_place o.sections index ≡ true
    → section_reason g true o name_offset (Some (bad_access ∷ [])) ≡ Some (SharedPlace index)
unfolding written bad_access
place_before_records g o name_offset index readable found shared =
    let bad : Option Reason = Some (BadRecord name_offset 0 BadAccess) in
    let place : Option Reason = option_and_then (shared_place o) (index_at g o name_offset) in
    ap (λ (b : Bool). option_or (reason_when b (BadSectionName name_offset)) (option_or place bad)) readable
    ∙ ap (λ (i : Option ℕ). option_or (option_and_then (shared_place o) i) bad) found
    ∙ ap (λ (b : Bool). option_or (reason_when b (SharedPlace index)) bad) shared
