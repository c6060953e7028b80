-- Whether a blob looks like a split table: a hint, and no test.
-- Source: a choice of this project, because nothing in a blob marks a split table. In a table without a base, each name
-- is in the table's strings. In a split table, most names are at offsets that the table's own strings do not have.
use Rattle.std.specs.Prelude.{◌≡◌, ◌⊎◌, ℕ, zero, suc, ◌≤◌, List, ◌++◌, length}
use Rattle.btf_model.specs.declared.endianness.Endianness.{Endianness}
use Rattle.btf_model.specs.Record.{Record}
use Rattle.btf_model.specs.Spelling.{IsRecord}
use Rattle.btf_model.specs.Blob.{header_len, header_of, strings_end, types_end, string_section, type_section}

-- Both sections of the blob are in it.
pub record HasSections (order : Endianness) (bytes : List ℕ) : Type 0 where
  pub header : header_len ≤ length bytes
  pub strings : strings_end (header_of order bytes) ≤ length bytes
  pub types : types_end (header_of order bytes) ≤ length bytes

-- One of the first n records at the front of the bytes has a name whose offset is the limit or above it.
abbrev pub NamesBeyond : Endianness → ℕ → ℕ → List ℕ → Type 0
NamesBeyond order limit zero bytes = ⊥
NamesBeyond order limit (suc n) bytes =
    (front rest : List ℕ) × (r : Record) × (bytes ≡ front ++ rest) × IsRecord order front r
    × ((limit ≤ r.name) ⊎ NamesBeyond order limit n rest)

-- the number of records that the hint looks at
abbrev pub hint_records : ℕ
hint_records = 64

-- The blob has its sections, and one of its first 64 records has a name that is not in the blob's own strings.
abbrev pub LooksSplit : Endianness → List ℕ → Type 0
LooksSplit order bytes =
    HasSections order bytes
    × NamesBeyond order (length (string_section (header_of order bytes) bytes)) hint_records
    (type_section (header_of order bytes) bytes)
