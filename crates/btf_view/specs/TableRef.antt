-- A table, whatever holds it.
use Rattle.std.specs.Prelude.{◌≡◌, ◌≢◌, ◌⊎◌, ◌<◌, ◌≤◌, ℕ, List, length, Option, Some, MatchOption, slice_get}
use Rattle.btf_model.specs.Record.{Record, kind_number}
use Rattle.btf_model.specs.Table.{Table, no_fallbacks}
use Rattle.btf_view.specs.View.{Shows}
use Rattle.btf_view.specs.Words.{records_there}
use Rattle.btf_view.specs.declared.table_ref.Source.{Source}
use Rattle.btf_view.specs.declared.table_ref.Source.TheVariants.{Parsed, Viewed}
use Rattle.btf_view.specs.declared.table_ref.ViewedTable.{ViewedTable}

-- the table in the bytes of a view
abbrev pub table_shown : ViewedTable → Table
table_shown t = record {
  order = t.view.endianness;
  magic = t.magic;
  version = t.version;
  flags = t.flags;
  strings = t.view.strings.now;
  records = records_there t.view.endianness t.view.types.now t.view.places.now;
  fallbacks = no_fallbacks (records_there t.view.endianness t.view.types.now t.view.places.now);
}

abbrev pub table_in : Source → Table
table_in (Parsed t) = t.now
table_in (Viewed t) = table_shown t

-- the places of a view are those of the records that it shows
abbrev pub IsShown : Source → Type 0
IsShown (Parsed t) = Unit {0}
IsShown (Viewed t) = Shows t.view (table_shown t).records

-- no record from one id on, before another id, has a kind of one of two numbers
abbrev pub AreOfOtherKinds : List Record → ℕ → ℕ → ℕ → ℕ → Type 0
AreOfOtherKinds records first end kind other =
    (id : ℕ) (r : Record) → first ≤ id → id < end → slice_get records id ≡ Some r
    → (kind_number r.info ≢ kind) × (kind_number r.info ≢ other)

-- The result is the least id, from one on, of a record whose kind has one of two numbers; or None if there is none.
abbrev pub IsNextOfKinds : List Record → ℕ → ℕ → ℕ → Option ℕ → Type 0
IsNextOfKinds records first kind other result =
    MatchOption result (AreOfOtherKinds records first (length records) kind other)
    (λ id. (r : Record) × (slice_get records id ≡ Some r) × (first ≤ id)
    × ((kind_number r.info ≡ kind) ⊎ (kind_number r.info ≡ other)) × AreOfOtherKinds records first id kind other)
