-- What a pass over a blob finds.
use Rattle.std.specs.Prelude.{◌≡◌, ◌≢◌, ℕ, ◌+◌, ◌<◌, ◌^◌, ◌≤◌, List, [], ◌∷◌, length, take, Result, Ok, Err, Some}
use Rattle.btf_model.specs.declared.endianness.Endianness.{Endianness}
use Rattle.btf_model.specs.Record.{Record, unknown}
use Rattle.btf_model.specs.Refusal.{Refusal}
use Rattle.btf_model.specs.Table.{Table}
use Rattle.btf_model.specs.Blob.{slice, AreRecords, IsTable, IsRefusal, IsRest, ReadsFront, rest_refusal}
use Rattle.btf_plain.specs.Error.{refusal_of}
use Rattle.btf_plain.specs.declared.error.BtfError.{BtfError}
use Rattle.btf_model.specs.Spelling.{IsRecord}
use Rattle.btf_view.specs.Places.{ArePlaces, AreIndexed}
use Rattle.btf_view.specs.declared.indexing.Sections.{Sections}
use Rattle.btf_view.specs.declared.indexing.Unindexed.{Unindexed}
use Rattle.btf_view.specs.declared.indexing.Unindexed.TheVariants.{Refused, TooFewPlaces}

-- the length of the record that the bytes begin with, or why they begin with none
abbrev pub HasLength : Endianness → List ℕ → Result ℕ BtfError → Type 0
HasLength order bytes (Ok len) =
    (12 ≤ len) × (len ≤ length bytes) × (r : Record) × IsRecord order (take len bytes) r
HasLength order bytes (Err e) =
    (refusal : Refusal) × (refusal_of e ≡ Some refusal) × ReadsFront order bytes (Err refusal)

-- The places of all records of a type section, Unknown first; why its rest is refused; or more records than places.
abbrev pub FillsPlaces : Endianness → List ℕ → List ℕ → Result ℕ Unindexed → Type 0
FillsPlaces order types places (Ok count) =
    (rs : List Record) × AreRecords order types rs × (count ≤ length places)
    × (count < 2 ^ 32) × ArePlaces order types (take count places) (unknown ∷ rs)
FillsPlaces order types places (Err (Refused e)) =
    (refusal : Refusal) × (refusal_of e ≡ Some refusal)
    × (rest : List ℕ) × IsRest order types rest × (rest ≢ []) × (refusal ≡ rest_refusal order rest)
FillsPlaces order types places (Err TooFewPlaces) =
    (rs : List Record) × AreRecords order types rs × (length places ≤ length rs)

-- The blob represents a table: the header's values, where both sections are, and the place of each record in the type
-- section.
pub record IsIndexed (order : Endianness) (bytes places : List ℕ) (index : Sections) : Type 0 where
  pub table : Table
  pub is_table : IsTable order bytes table
  pub magic : index.magic ≡ table.magic
  pub version : index.version ≡ table.version
  pub flags : index.flags ≡ table.flags
  pub types_fit : index.types_at + index.types_len ≤ length bytes
  pub strings_fit : index.strings_at + index.strings_len ≤ length bytes
  pub strings : slice index.strings_at index.strings_len bytes ≡ table.strings
  pub count : index.count ≤ length places
  pub places_are : AreIndexed order (slice index.types_at index.types_len bytes) (take index.count places) table.records

-- What indexing returns: the sections and the places of a table; the first reason to refuse the bytes; or that the bytes
-- represent a table with more types than there are places.
abbrev pub IndexesBlob : Endianness → List ℕ → List ℕ → Result Sections Unindexed → Type 0
IndexesBlob order bytes places (Ok index) = IsIndexed order bytes places index
IndexesBlob order bytes places (Err (Refused e)) =
    (refusal : Refusal) × (refusal_of e ≡ Some refusal) × IsRefusal order bytes refusal
IndexesBlob order bytes places (Err TooFewPlaces) =
    (t : Table) × IsTable order bytes t × (length places < length t.records)
