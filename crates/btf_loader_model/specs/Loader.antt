-- The file of an object whose code is relocated: its sections of relocation records, one after another. The records of
-- all sections share the candidates of a type.
-- Source: libbpf's `bpf_object__relocate_core`, which has one cache of candidates for an object. That the first section
-- of a name counts, that a section of records may name no section, and that a long name names none, are choices of this
-- project.
use Rattle.std.specs.Prelude.{◌≡◌, ℕ, ◌+◌, ◌&&◌, nat_lt, Bool, true, false, if◌then◌else◌, List, [], ◌∷◌, ◌++◌, length, take, drop, position, slice_get, Option, Some, None, is_some, option_map, Result, Ok, Err, is_err}
use Rattle.std.specs.List.{list_any}
use Rattle.std.specs.Option.{option_and_then}
use Rattle.std.specs.Str.{bytes_eq}
use Rattle.btf_model.specs.Blob.{slice, IsTable}
use Rattle.btf_model.specs.Ext.{Ext, IsExt}
use Rattle.btf_model.specs.Refusal.{Refusal}
use Rattle.btf_model.specs.Table.{Table}
use Rattle.btf_model.specs.Text.{is_zero, text_at}
use Rattle.btf_model.specs.declared.endianness.Endianness.{Endianness}
use Rattle.btf_elf_model.specs.Object.{Object, IsObject, section_name, section_bytes}
use Rattle.btf_elf_model.specs.Section.{has_bytes}
use Rattle.btf_elf_model.specs.declared.section_header.SectionHeader.{SectionHeader}
use Rattle.btf_object_model.specs.Layout.{name_limit}
use Rattle.btf_object_model.specs.Sanitized.{first_section_index, table_name, ext_name}
use Rattle.btf_relocate_model.specs.Modules.{Candidates, KernelSetting, Targets, all_candidates, alone, left_after_section, reported_section}
use Rattle.btf_relocate_model.specs.declared.report.Report.{Report}

-- what was done for each record of a section; none if no section has its name
abbrev pub Outcomes : Type 0
Outcomes = Option (List Report)

-- The index of the first section that has a name, and bytes in the file. A name that no rewrite asks for because of its
-- length names no section of code.
abbrev pub code_index : Object → List ℕ → Option ℕ
code_index o name =
    if nat_lt (length name) name_limit
    then position (λ s. has_bytes s && bytes_eq (section_name o s) name) o.sections
    else None

-- the index of the section of a name that was read from the table; none if it cannot be read
abbrev pub index_by : Object → Result (List ℕ) Refusal → Option ℕ
index_by o (Ok name) = code_index o name
index_by o (Err refusal) = None

-- A name at an offset of the strings ends before the limit: of the first `name_limit` bytes from the offset on, one is
-- the zero byte that ends a text.
abbrev pub is_short_at : List ℕ → ℕ → Bool
is_short_at strings offset = is_some (position is_zero (take name_limit (drop offset strings)))

-- the index of the section whose name is at a string offset of the program's table; none for a long name
abbrev pub index_at : KernelSetting → Object → ℕ → Option ℕ
index_at g o name_offset =
    if is_short_at g.local.strings name_offset then index_by o (text_at g.local.strings name_offset) else None

-- the section whose name is at a string offset of the program's table
abbrev pub section_at : KernelSetting → Object → ℕ → Option SectionHeader
section_at g o name_offset = option_and_then (slice_get o.sections) (index_at g o name_offset)

-- the file with other bytes from an offset on
abbrev pub file_overwritten : ℕ → List ℕ → List ℕ → List ℕ
file_overwritten at new file = take at file ++ new ++ drop (at + length new) file

-- The outcomes of the records of a section, and the file with its code relocated, where the sections before it have
-- left these candidates of each type. Without a section the file stays.
abbrev pub relocated_at : KernelSetting → Bool → (ℕ → Candidates) → Option SectionHeader → List ℕ → List (List ℕ)
    → Outcomes × List ℕ
relocated_at g is_shared left None file records = (None, file)
relocated_at g is_shared left (Some s) file records =
    let r = reported_section g is_shared left (slice s.offset s.size file) records in
    (Some r.0, file_overwritten s.offset r.1 file)

-- The candidates of each type that the section leaves. Records without a section remove none.
abbrev pub left_at : KernelSetting → Bool → (ℕ → Candidates) → Option SectionHeader → List (List ℕ) → ℕ → Candidates
left_at g is_shared left None records = left
left_at g is_shared left (Some s) records = left_after_section g is_shared left records

-- the outcomes of a section of records, before those of later ones
abbrev pub then_section : ℕ × Outcomes → List (ℕ × Outcomes) × List ℕ → List (ℕ × Outcomes) × List ℕ
then_section s rest = (s ∷ rest.0, rest.1)

-- The outcomes of each section of records, with the string offset of its name, and the file after all of them, where
-- the sections before them have left these candidates.
abbrev pub sections_relocated : KernelSetting → Bool → Object → (ℕ → Candidates) → List ℕ → List (ℕ × List (List ℕ))
    → List (ℕ × Outcomes) × List ℕ
sections_relocated g is_shared o left file [] = ([], file)
sections_relocated g is_shared o left file (s ∷ rest) =
    let at = section_at g o s.0 in
    let r = relocated_at g is_shared left at file s.1 in
    then_section (s.0, r.0) (sections_relocated g is_shared o (left_at g is_shared left at s.1) r.1 rest)

-- The same from the start, when each type has all its candidates.
abbrev pub relocated_file : KernelSetting → Bool → Object → List ℕ → List (ℕ × List (List ℕ))
    → List (ℕ × Outcomes) × List ℕ
relocated_file g is_shared o file sections = sections_relocated g is_shared o (all_candidates g) file sections

-- ---- errors of records

-- the outcome of a record is an error
abbrev pub is_error : Report → Bool
is_error report = is_err report.outcome

-- the outcome of a record of a section is an error
abbrev pub has_error : Outcomes → Bool
has_error None = false
has_error (Some outcomes) = list_any is_error outcomes

-- the outcome of any record is an error
abbrev pub any_error : List (ℕ × Outcomes) → Bool
any_error sections = list_any (λ (s : ℕ × Outcomes). has_error s.1) sections

-- ---- the object

-- the bytes of the first section that has a name
abbrev pub bytes_named : Object → List ℕ → Option (List ℕ)
bytes_named o name = option_map (section_bytes o) (option_and_then (slice_get o.sections) (first_section_index o name))

-- The sections of relocation records in the bytes of `.BTF.ext`, for a table with these strings; none without the bytes.
abbrev pub AreRelocationSections : Endianness → List ℕ → Option (List ℕ) → List (ℕ × List (List ℕ)) → Type 0
AreRelocationSections order strings None sections = sections ≡ []
AreRelocationSections order strings (Some bytes) sections =
    (e : Ext) × IsExt order bytes strings (Ok e) × (sections ≡ e.relocations)

-- the name of a section of records cannot be read from these strings
abbrev pub is_unreadable : List ℕ → ℕ × List (List ℕ) → Bool
is_unreadable strings s = is_err (text_at strings s.0)

-- The bytes are an object with a table, and these are the outcomes of its relocation records for a kernel with modules,
-- and the file with its code relocated.
pub record IsRelocatedAmong (bytes : List ℕ) (targets : Targets) (is_shared : Bool) (outcomes : List (ℕ × Outcomes))
    (file : List ℕ) : Type 0 where
  pub object : Object
  pub is_object : IsObject bytes object
  pub table : List ℕ
  pub has_table : bytes_named object table_name ≡ Some table
  pub local : Table
  pub is_table : IsTable object.header.order table local
  pub sections : List (ℕ × List (List ℕ))
  pub are_sections : AreRelocationSections object.header.order local.strings (bytes_named object ext_name) sections
  pub are_readable : list_any (is_unreadable local.strings) sections ≡ false
  pub relocated : (outcomes, file)
      ≡ relocated_file (record { local = local; targets = targets }) is_shared object bytes sections

-- the same for a target table, which is that of a kernel without modules
abbrev pub IsRelocated : List ℕ → Table → Bool → List (ℕ × Outcomes) → List ℕ → Type 0
IsRelocated bytes target is_shared outcomes file = IsRelocatedAmong bytes (alone target) is_shared outcomes file
