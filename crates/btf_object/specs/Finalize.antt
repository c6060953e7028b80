-- What the steps find and make that finalize a table and set the sizes of STRUCTs.
use Rattle.std.specs.Prelude.{◌≡◌, ◌≢◌, ℕ, if◌then◌else◌, List, length, map, Option, Some, None, Result, Ok, Err, Vec, is_some, IfOk}
use Rattle.std.specs.BTreeMap.{BTreeMap, get}
use Rattle.std.specs.Option.{unwrap_or}
use Rattle.std.specs.Ordering.{nat_cmp}
use Rattle.btf_model.specs.Record.{Record, kind_of, vlen}
use Rattle.btf_model.specs.Refusal.{Refusal}
use Rattle.btf_model.specs.Table.{Table}
use Rattle.btf_model.specs.Text.{text_at}
use Rattle.btf_rewrite_model.specs.Checks.{in_a_word}
use Rattle.btf_rewrite_model.specs.Made.{Entry, section_entries, record_at, kind_at, struct}
use Rattle.btf_rewrite_model.specs.Pass.{Layout}
use Rattle.btf_plain.specs.declared.items.DataSecEntry.{DataSecEntry}
use Rattle.btf_table.specs.KsymsStep.{model_entry}
use Rattle.btf_object_model.specs.Finalized.{known_section_size, entry_at_offset, is_completed, completed_size, final_entries, has_data_sec_kind, is_struct, IsFinal, entry_offset}
use Rattle.btf_table.specs.Layout.{layout_of}
use Rattle.btf_object.specs.declared.finalize.known.KnownNames.{KnownNames}
use Rattle.btf_object.specs.declared.layout.ObjectLayout.{ObjectLayout}
use Rattle.std.specs.List.{list_all}
use Rattle.btf_plain.specs.declared.error.BtfError.{BtfError}

-- ---- names

-- the sizes and the offsets of an object
abbrev pub layout_in : {A H : Type 0} → ObjectLayout A H → Layout
layout_in layout = layout_of layout.sections layout.symbols

-- the offset of the symbol of a name, if the name can be read, and if the offset is known and has 32 bits
abbrev pub symbol_of : Layout → Result (List ℕ) Refusal → Option (Option ℕ)
symbol_of layout (Ok name) = Some (in_a_word (layout.symbols name))
symbol_of layout (Err refusal) = None

-- In any layout with these sizes, the size of the section of a name is the one that is read.
abbrev pub ReadsSize : {X : Type 0} → (List ℕ → Option ℕ) → Result (List ℕ) Refusal
    → Result (Option ℕ × X) BtfError → Type 0
ReadsSize sizes name result =
    (layout : Layout) → layout.sections ≡ sizes → IfOk result (λ r. r.0 ≡ known_section_size layout name)

-- In any layout with these offsets, the offset of the symbol of a name is the one that is read.
abbrev pub ReadsSymbol : {X : Type 0} → (List ℕ → Option ℕ) → Result (List ℕ) Refusal
    → Result (Option (Option ℕ) × X) BtfError → Type 0
ReadsSymbol offsets name result =
    (layout : Layout) → layout.symbols ≡ offsets → IfOk result (λ r. r.0 ≡ symbol_of layout name)

-- Each cached value is the one that `find` gives for the name at its string offset.
abbrev pub AreCached : {V : Type 0} → (Result (List ℕ) Refusal → V) → List ℕ → BTreeMap ℕ V → Type 0
AreCached {V} find strings known =
    (offset : ℕ) (v : V) → get nat_cmp known offset ≡ Some v → find (text_at strings offset) ≡ v

-- All cached values are correct for these strings and this layout.
pub record AreNamesCached (strings : List ℕ) (layout : Layout) (names : KnownNames) : Type 0 where
  pub sizes : AreCached (known_section_size layout) strings names.sizes
  pub symbols : AreCached (symbol_of layout) strings names.symbols

-- ---- DATASECs

-- a size and entries of the code as those of the definitions
abbrev pub parts_of : {A : Type 0} → ℕ × Vec DataSecEntry A → ℕ × List Entry
parts_of parts = (parts.0, map model_entry parts.1.items)

-- the size and the entries of a DATASEC that is completed
abbrev pub completed_parts : Layout → Table → Record → Option (ℕ × List Entry)
completed_parts layout t r =
    if is_completed layout t r
    then Some (unwrap_or (known_section_size layout (text_at t.strings r.name)) 0, map (entry_at_offset layout t) (section_entries r.tail))
    else None

-- the size and the entries of a DATASEC, completed or not
abbrev pub final_parts : Layout → Table → Record → ℕ × List Entry
final_parts layout t r = (completed_size layout t r, final_entries layout t r)

-- The record of an id becomes its final record, with its kind, and nothing else changes.
pub record FinalizesAt (layout : Layout) (id : ℕ) (old new : Table) : Type 0 where
  pub others : new ≡ record old { records = new.records }
  pub count : length new.records ≡ length old.records
  pub here : IsFinal layout old (kind_at old id) (record_at old id) (record_at new id)
  pub kind : kind_at new id ≡ kind_at old id
  pub elsewhere : (k : ℕ) → k ≢ id → record_at new k ≡ record_at old k

-- ---- STRUCTs

-- the size of a DATASEC; none for another record
abbrev pub data_sec_size : Record → Option ℕ
data_sec_size r = if has_data_sec_kind (kind_of r.info) then Some r.third else None

-- a STRUCT of another size; another record is unchanged
abbrev pub resized_record : ℕ → Record → Record
resized_record size r = if is_struct (kind_of r.info) then struct r.name size (vlen r.info) r.tail else r

-- The record of an id gets this size if it is a STRUCT, and nothing else changes.
pub record ResizesAt (id size : ℕ) (old new : Table) : Type 0 where
  pub others : new ≡ record old { records = new.records }
  pub count : length new.records ≡ length old.records
  pub here : record_at new id ≡ resized_record size (record_at old id)
  pub elsewhere : (k : ℕ) → k ≢ id → record_at new k ≡ record_at old k

-- the entries of a DATASEC at the offsets of their symbols; none if one of the offsets is not known
abbrev pub entries_at_offsets : Layout → Table → Record → Option (List Entry)
entries_at_offsets layout t r =
    if list_all (λ e. is_some (entry_offset layout t e)) (section_entries r.tail)
    then Some (map (entry_at_offset layout t) (section_entries r.tail)) else None
