-- The outcomes of the calls that read a blob by the places of its records.
use Rattle.std.specs.Prelude.{◌≡◌, ◌⊎◌, ◌+◌, ◌<◌, ◌≤◌, ℕ, List, length, take, Some, slice_get}
use Rattle.btf_model.specs.declared.endianness.Endianness.{Endianness}
use Rattle.btf_model.specs.Record.{Kind, Record, kinds}
use Rattle.btf_model.specs.Refusal.{Refusal}
use Rattle.btf_model.specs.Table.{Table}
use Rattle.btf_model.specs.Text.{FindsName}
use Rattle.std.specs.Str.{IsUtf8}
use Rattle.btf_model.specs.Blob.{IsRefusal, IsTable, slice}
use Rattle.btf_table.specs.Readable.{IsReadableEnd}
use Rattle.btf_view.specs.Places.{AreIndexed, ForRecords}
use Rattle.btf_view.specs.declared.indexing.Sections.{Sections}
use Rattle.btf_view.specs.View.{Shows}
use Rattle.btf_view.specs.declared.view.View.{View}
use Rattle.vbtf.specs.Orders.{order_chosen, order_named, order_number}
use Rattle.vbtf.specs.Status.{EndsCall, ReportsRefusal}
use Rattle.vbtf.specs.declared.fault.Fault.{Fault}
use Rattle.vbtf.specs.declared.view.ViewParts.{ViewParts}

-- The parts are those of the sections, with the end of the offsets at which a name can be read.
pub record IsViewOf (bytes : List ℕ) (order : ℕ) (sections : Sections) (parts : ViewParts) : Type 0 where
  pub order_is : parts.order ≡ order
  pub magic : parts.magic ≡ sections.magic
  pub version : parts.version ≡ sections.version
  pub flags : parts.flags ≡ sections.flags
  pub types_at : parts.types_at ≡ sections.types_at
  pub types_len : parts.types_len ≡ sections.types_len
  pub strings_at : parts.strings_at ≡ sections.strings_at
  pub strings_len : parts.strings_len ≡ sections.strings_len
  pub names : IsReadableEnd (slice sections.strings_at sections.strings_len bytes) parts.names_len
  pub count : parts.count ≡ sections.count

-- The blob represents a table: its order and its header's values, where both sections are, the end of the offsets at
-- which a name can be read, and the place of each record in the type section.
pub record IsView (order : Endianness) (bytes places : List ℕ) (parts : ViewParts) : Type 0 where
  pub table : Table
  pub is_table : IsTable order bytes table
  pub order_is : parts.order ≡ order_number order
  pub magic : parts.magic ≡ table.magic
  pub version : parts.version ≡ table.version
  pub flags : parts.flags ≡ table.flags
  pub types_fit : parts.types_at + parts.types_len ≤ length bytes
  pub strings_fit : parts.strings_at + parts.strings_len ≤ length bytes
  pub strings : slice parts.strings_at parts.strings_len bytes ≡ table.strings
  pub names : IsReadableEnd table.strings parts.names_len
  pub count : parts.count ≤ length places
  pub places_are : AreIndexed order (slice parts.types_at parts.types_len bytes) (take parts.count places) table.records

-- For the number of an order, the outcomes of indexing a blob: status 0 and the parts of a view; the first reason to
-- refuse the bytes; or status 100, and the bytes represent a table with more types than there are places.
abbrev pub EndsIndexingBlob : ℕ → ℕ → List ℕ → List ℕ → ViewParts → Fault → Type 0
EndsIndexingBlob status order bytes places parts fault =
    let o : Endianness = order_chosen order bytes in
    order ≤ 2
    → ((status ≡ 0) × IsView o bytes places parts)
    ⊎ ((refusal : Refusal) × ReportsRefusal status fault refusal × IsRefusal o bytes refusal)
    ⊎ ((status ≡ 100) × (t : Table) × IsTable o bytes t × (length places < length t.records))

-- For one of the two orders, P holds for the records at these places.
abbrev pub ForPlaces : ℕ → List ℕ → List ℕ → (List Record → Type 0) → Type 0
ForPlaces order types places P = order ≤ 1 → ForRecords (order_named order) types places P

-- The view has these strings, and shows the records at these places in the order of the number.
pub record IsViewIn (order : ℕ) (types strings places : List ℕ) (view : View) : Type 0 where
  pub order_fits : order ≤ 1
  pub strings_are : view.strings.now ≡ strings
  pub shows : (records : List Record) → AreIndexed (order_named order) types places records → Shows view records

-- For a name that is UTF-8 and the number of a kind, the call ends as the search for the name and the kind.
abbrev pub EndsLookingUp : ℕ → List ℕ → List Record → ℕ → List ℕ → ℕ → Fault → Type 0
EndsLookingUp status strings records kind name id fault =
    IsUtf8 name → (k : Kind) → slice_get kinds kind ≡ Some k
    → EndsCall status id fault (FindsName strings records k name)
