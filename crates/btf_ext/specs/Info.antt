-- Function and line records in the model's terms.
use Rattle.std.specs.Prelude.{◌≡◌, ℕ, if◌then◌else◌, List, [], ◌∷◌, map, option_map, Option, Some, None, Result, Ok, Err}
use Rattle.std.specs.HashMap.{get_by_text, hasher_of}
use Rattle.std.specs.Option.{option_or}
use Rattle.std.specs.Str.{bytes_eq}
use Rattle.btf_model.specs.Ext.{Part, Named, Records, AreNamed, records_named, instruction_records}
use Rattle.btf_model.specs.Refusal.{Refusal}
use Rattle.btf_model.specs.declared.endianness.Endianness.{Endianness}
use Rattle.btf_ext.specs.declared.info.by_section.BySection.{BySection}
use Rattle.btf_ext.specs.declared.info.func.bpf_func_info.{bpf_func_info}
use Rattle.btf_ext.specs.declared.info.func.FuncSecInfo.{FuncSecInfo}
use Rattle.btf_ext.specs.declared.info.line.bpf_line_info.{bpf_line_info}
use Rattle.btf_ext.specs.declared.info.line.LineSecInfo.{LineSecInfo}
use Rattle.btf_model.specs.Table.{Table}
use Rattle.btf_model.specs.Text.{text_at}
use Rattle.btf_ext.specs.declared.sections.SecInfo.{SecInfo}
use Rattle.btf_ext.specs.SecInfo.{section_of}

-- the words of a function record
abbrev pub func_words : bpf_func_info → List ℕ
func_words r = r.insn_off ∷ r.type_id ∷ []

-- the function records of a section: the count that the section records, and the words of each
abbrev pub func_records : FuncSecInfo → Records
func_records s = record { count = s.num_info; words = map func_words s.func_info.items }

-- the words of a line record
abbrev pub line_words : bpf_line_info → List ℕ
line_words r = r.insn_off ∷ r.file_name_off ∷ r.line_off ∷ r.line_col ∷ []

-- the line records of a section: the count that the section records, and the words of each
abbrev pub line_records : LineSecInfo → Records
line_records s = record { count = s.num_info; words = map line_words s.line_info.items }

-- the records under each name; `records` maps those of a section to the model's
abbrev pub by_name : {S H Hasher : Type 0} → (S → Records) → BySection S H Hasher → List ℕ → Option Records
by_name records b name = option_map records (get_by_text b.sections name)

-- the hasher of the names
abbrev pub hasher_in : {S H Hasher : Type 0} → BySection S H Hasher → H
hasher_in b = hasher_of b.sections

-- the function records under each name
abbrev pub funcs_by_name : {H Hasher : Type 0} → BySection FuncSecInfo H Hasher → List ℕ → Option Records
funcs_by_name = by_name func_records

-- the line records under each name
abbrev pub lines_by_name : {H Hasher : Type 0} → BySection LineSecInfo H Hasher → List ℕ → Option Records
lines_by_name = by_name line_records

-- The look-up by name before and after these records are added under the name `text`: a name that had records keeps
-- them, and otherwise `text` has these.
abbrev pub GainsUnder : List ℕ → Records → (List ℕ → Option Records) → (List ℕ → Option Records) → Type 0
GainsUnder text records old new =
    (name : List ℕ) → new name ≡ option_or (old name) (if bytes_eq name text then Some records else None)

-- The result of reading the named sections of a part: the records under each name, `width` words of each; or the error.
abbrev pub AreByName : Endianness → ℕ → List ℕ → Part → Result (List ℕ → Option Records) Refusal → Type 0
AreByName order width strings p (Ok found) =
    (sections : List Named) × AreNamed order p.size strings p.bytes (Ok sections)
    × ((name : List ℕ) → found name ≡ records_named order width p sections name)
AreByName order width strings p (Err refusal) = AreNamed order p.size strings p.bytes (Err refusal)

-- The instructions and words of a section's records, of this size and of this number of words, are added under its name.
abbrev pub GainsSection : Table → Endianness → ℕ → ℕ → SecInfo → (List ℕ → Option Records)
    → (List ℕ → Option Records) → Type 0
GainsSection t order size width section old new =
    (text : List ℕ) → text_at t.strings section.name_offset ≡ Ok text
    → GainsUnder text (instruction_records order size width (section_of section)) old new
