-- What the functions for a DATASEC of a pass return.
use Rattle.btf_plain.specs.declared.items.DataSecEntry.{DataSecEntry}
use Rattle.std.specs.Prelude.{List, Result, [], length, ℕ, ◌∷◌, map, Option, ◌≡◌, true, ◌==◌, Some, Ok, Bool, OnOk}
use Rattle.btf_rewrite_model.specs.Pass.{Pass, symbol_by_name, size_by_name, gets_filler, renaming, has}
use Rattle.btf_model.specs.Record.{Record, vlen}
use Rattle.btf_model.specs.Refusal.{Refusal}
use Rattle.btf_model.specs.Text.{text_at}
use Rattle.btf_table.specs.Checked.{checked}
use Rattle.btf_rewrite_model.specs.Rule.{entry_members, placed, name_or}
use Rattle.btf_rewrite_model.specs.Checks.{first_fault, name_is_read, have_room, in_a_word}
use Rattle.btf_rewrite_model.specs.Fault.{member_checks, is_placed, entry_checks, is_sized}
use Rattle.btf_table.specs.KsymsStep.{model_entry as entry_of}
use Rattle.btf_rewrite_model.specs.Made.{section_entries, Entry}
use Rattle.std.specs.List.{flat_map}
use Rattle.btf_model.specs.Table.{Table}
use Rattle.std.specs.Option.{unwrap_or}
use Rattle.btf_rewrite_model.specs.Made as model
use Rattle.btf_plain.specs.declared.error.BtfError.{BtfError}
use Rattle.btf_records.specs.declared.btf_type.BtfType.{BtfType}
use Rattle.btf_plain.specs.Error.{IsOrNoMemory, MeetsOrNoMemory}
use Rattle.btf_records.specs.declared.btf_type.BtfType.TheVariants as types
use Rattle.btf_records.specs.BtfType.{record_of}
use Rattle.btf_rewrite_model.specs.declared.feature.FeatureAnswer.{FeatureAnswer}
use Rattle.btf_table.specs.PassStep.{Given, Rules, pass_on, StepsInPass}
use Rattle.btf_table.specs.SectionStep.{HasNewName, final_size}
use Rattle.btf_table.specs.declared.sanitize.made.Made.{Made}
use Rattle.btf_table.specs.declared.table.changes.Changes.{Changes}
use Rattle.btf_table.specs.Adding.{next_string_offset, Adds}
use Rattle.btf_rewrite_model.specs.declared.feature.BtfFeature.TheVariants as features
use Rattle.btf_plain.specs.declared.items.BtfMember.{BtfMember}
use Rattle.btf_plain.specs.Items.{member_words}

-- the names are those of these records
abbrev pub AreNamesOf : List ℕ → List Record → Type 0
AreNamesOf names rs = names ≡ map (λ (r : Record). r.name) rs

-- The words of the member that an entry becomes, or the first reason to refuse the entry.
abbrev pub member_made : Pass → List Record → DataSecEntry → Result (List ℕ) Refusal
member_made p lower entry =
    checked (first_fault (member_checks p (entry_of entry)))
    (entry_members p lower (length lower) (entry_of entry ∷ []))

-- The words of the members that the entries of a DATASEC become, or the first reason to refuse an entry.
abbrev pub members_made : Pass → List Record → Record → Result (List ℕ) Refusal
members_made p lower data_sec =
    checked (first_fault (flat_map (member_checks p) (section_entries data_sec.tail)))
    (entry_members p lower (length lower) (section_entries data_sec.tail))

-- The offset of the symbol whose name is at a string offset, or why it isn't known.
abbrev pub symbol_offset_at : Pass → Table → ℕ → Result ℕ Refusal
symbol_offset_at p btf name_offset =
    let name = text_at btf.strings name_offset in
    checked (first_fault (name_is_read name ∷ is_placed (symbol_by_name p name) name ∷ []))
    (unwrap_or (symbol_by_name p name) 0)

-- An entry at the offset of its symbol, or the first reason to refuse it.
abbrev pub entry_placed : Pass → DataSecEntry → Result Entry Refusal
entry_placed p entry = checked (first_fault (entry_checks p (entry_of entry))) (placed p (entry_of entry))

-- The entries of a DATASEC at the offsets of their symbols, or the first reason to refuse an entry.
abbrev pub entries_placed : Pass → Record → Result (List Entry) Refusal
entries_placed p data_sec =
    checked (first_fault (flat_map (entry_checks p) (section_entries data_sec.tail)))
    (map (placed p) (section_entries data_sec.tail))

-- Whenever these are the names of the lower ids, the result is the STRUCT of this name that a DATASEC becomes, or
-- the first reason to refuse an entry.
abbrev pub BecomesStruct : Table → List ℕ → Record → ℕ → Result (Option BtfType) BtfError → Type 0
BecomesStruct btf names data_sec name_offset result =
    (p : Pass) (lower : List Record) → p.table ≡ btf → AreNamesOf names lower
    → IsOrNoMemory (λ new. record_of (unwrap_or new (types.DataSec data_sec))) result
    (checked (first_fault (flat_map (member_checks p) (section_entries data_sec.tail)))
    (model.struct name_offset (vlen data_sec.info) (vlen data_sec.info)
    (entry_members p lower (length lower) (section_entries data_sec.tail))))

-- For a DATASEC of size 0, the result is the size of its section, or why it isn't known.
abbrev pub IsSectionSize : Table → Record → (List ℕ → Option ℕ) → Result ℕ BtfError → Type 0
IsSectionSize btf data_sec sizes result =
    let name = text_at btf.strings data_sec.name in
    (data_sec.third == 0) ≡ true → (p : Pass) → p.table ≡ btf → p.layout.sections ≡ sizes
    → IsOrNoMemory (λ n. n) result (checked
    (first_fault (name_is_read name ∷ is_sized (size_by_name p name) name ∷ []))
    (unwrap_or (size_by_name p name) 0))

-- Whenever a pass comes to a DATASEC that gets the filler, the result is what its rule gives.
abbrev pub IsFilled : Made → Made → Table → ℕ → ℕ → Result (Option BtfType) BtfError → Type 0
IsFilled old_made new_made btf name_offset size result =
    (given : Given) (answers : List FeatureAnswer) (id : ℕ) (r : Record) (before : Made)
    → HasNewName (pass_on btf given answers) id r name_offset before old_made
    → gets_filler (pass_on btf given answers) id ≡ true
    → final_size (pass_on btf given answers) id r ≡ Some size
    → MeetsOrNoMemory (λ new. unwrap_or new (types.DataSec r)) result
    (Rules (pass_on btf given answers) id (types.DataSec r) before new_made)

-- The result is the DATASEC of this name and size with its entries at the offsets of their symbols, or the first
-- reason to refuse an entry.
abbrev pub HasSymbolOffsets : Table → Record → ℕ → ℕ → (List ℕ → Option ℕ) → Result (Option BtfType) BtfError → Type 0
HasSymbolOffsets btf data_sec name_offset size offsets result =
    (p : Pass) → p.table ≡ btf → p.layout.symbols ≡ offsets
    → IsOrNoMemory (λ new. record_of (unwrap_or new (types.DataSec data_sec))) result
    (checked (first_fault (flat_map (entry_checks p) (section_entries data_sec.tail)))
    (model.made_data_sec name_offset size (vlen data_sec.info) (map (placed p) (section_entries data_sec.tail))))

-- The string offset of the new name of a DATASEC, or why it can't be read or does not fit.
abbrev pub new_name_offset : Pass → Table → Changes → Record → Result ℕ Refusal
new_name_offset p btf changes data_sec =
    let name = text_at btf.strings data_sec.name in
    checked (first_fault (name_is_read name ∷ have_room (next_string_offset btf changes) (renaming p name)))
    (name_or data_sec.name (next_string_offset btf changes) (renaming p name))

-- When a pass with these arguments comes to this DATASEC, all that it asks for is answered, and the result is what
-- its rule gives, or allocation fails.
abbrev pub StepsSection : Made → Made → Table → Record → Given → List FeatureAnswer → List FeatureAnswer → Result
    (Option BtfType) BtfError → Type 0
StepsSection old_made new_made btf data_sec given first second result =
    StepsInPass btf given (types.DataSec data_sec) first second old_made new_made
    (λ new. unwrap_or new (types.DataSec data_sec)) result

-- The size of the section of a name, or why it isn't known.
abbrev pub section_size_of : List ℕ → (List ℕ → Option ℕ) → Result ℕ Refusal
section_size_of name sizes =
    checked (is_sized (in_a_word (sizes name)) (Ok name)) (unwrap_or (in_a_word (sizes name)) 0)

-- A DATASEC with this name.
abbrev pub named_as : Record → ℕ → Result Record Refusal
named_as data_sec name_offset = Ok (record data_sec { name = name_offset })

-- On a kernel that has DATASECs or lacks them as given, the new name of a DATASEC is appended if it changes, and
-- nothing else.
abbrev pub AddsName : Table → Record → Bool → Changes → Changes → Result ℕ BtfError → Type 0
AddsName btf data_sec granted old new result =
    (p : Pass) → p.table ≡ btf → has p features.DataSec ≡ granted
    → OnOk result (Adds btf old new (renaming p (text_at btf.strings data_sec.name)) [])

-- On a kernel that has DATASECs or lacks them as given, the result is the string offset of the new name of a
-- DATASEC, or why there is none.
abbrev pub IsNewName : Table → Changes → Record → Bool → Result ℕ BtfError → Type 0
IsNewName btf changes data_sec granted result =
    (p : Pass) → p.table ≡ btf → has p features.DataSec ≡ granted
    → IsOrNoMemory (λ o. o) result (new_name_offset p btf changes data_sec)

-- Whenever these are the names of the lower ids, the result is the member that an entry becomes, or the first
-- reason to refuse the entry.
abbrev pub IsMember : Table → List ℕ → DataSecEntry → Result BtfMember BtfError → Type 0
IsMember btf names entry result =
    (p : Pass) (lower : List Record) → p.table ≡ btf → AreNamesOf names lower
    → IsOrNoMemory member_words result (member_made p lower entry)

-- Whenever these are the names of the lower ids, the result's words are those of the members that the entries of a
-- DATASEC become, or it is the first reason to refuse an entry.
abbrev pub AreMembers : {X : Type 0} → Table → List ℕ → Record → (X → List ℕ) → Result X BtfError → Type 0
AreMembers btf names data_sec words_of result =
    (p : Pass) (lower : List Record) → p.table ≡ btf → AreNamesOf names lower
    → IsOrNoMemory words_of result (members_made p lower data_sec)

-- The result is the entries of a DATASEC at the offsets of their symbols, or the first reason to refuse an entry.
abbrev pub AreEntriesPlaced : {X : Type 0} → Table → Record → (List ℕ → Option ℕ) → (X → List Entry) → Result X
    BtfError → Type 0
AreEntriesPlaced btf data_sec offsets entries_in result =
    (p : Pass) → p.table ≡ btf → p.layout.symbols ≡ offsets
    → IsOrNoMemory entries_in result (entries_placed p data_sec)
