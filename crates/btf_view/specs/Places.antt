-- Where the records of a type section begin.
use Rattle.std.specs.Prelude.{◌≡◌, ◌⊎◌, ◌≤◌, ◌<◌, ◌^◌, ℕ, List, [], ◌∷◌, length, drop, Ok}
use Rattle.btf_model.specs.declared.endianness.Endianness.{Endianness}
use Rattle.btf_model.specs.Record.{Record, unknown}
use Rattle.btf_model.specs.Blob.{ReadsFront}

-- The record begins at this place of the type section; or the place is past the section, and the record is that of
-- id 0, which has no bytes.
abbrev pub IsRecordAt : Endianness → List ℕ → ℕ → Record → Type 0
IsRecordAt order types place r = ReadsFront order (drop place types) (Ok r) ⊎ ((length types ≤ place) × (r ≡ unknown))

-- These are the places of the records in the type section, one place for each record.
abbrev pub ArePlaces : Endianness → List ℕ → List ℕ → List Record → Type 0
ArePlaces order types [] [] = Unit {0}
ArePlaces order types (place ∷ places) (r ∷ rs) = IsRecordAt order types place r × ArePlaces order types places rs
ArePlaces order types places rs = ⊥

-- The same, and each id has 32 bits.
pub record AreIndexed (order : Endianness) (types places : List ℕ) (records : List Record) : Type 0 where
  pub are : ArePlaces order types places records
  pub ids : length records < 2 ^ 32

-- P holds for the records at these places.
abbrev pub ForRecords : Endianness → List ℕ → List ℕ → (List Record → Type 0) → Type 0
ForRecords order types places P = (records : List Record) → AreIndexed order types places records → P records
