-- The grammar of a blob, its one written form, and the first reason to refuse it.
-- Source: the kernel's BTF documentation, "BTF Type and String Encoding", `struct btf_header`; the order of the tests
-- is the order in aya-obj's `Btf::parse`, with sums in 64 bits.
use Rattle.std.specs.Prelude.{◌≡◌, ◌≢◌, ℕ, ◌+◌, ◌<◌, ◌≤◌, ◌^◌, nat_lt, if◌then◌else◌, List, [], ◌∷◌, ◌++◌, length, take, drop, slice_index, Result, Ok, Err}
use Rattle.std.specs.List.{flat_map, AllByRecursion}
use Rattle.btf_model.specs.Word.{word, word_of, half, half_of}
use Rattle.btf_model.specs.declared.endianness.Endianness.{Endianness}
use Rattle.btf_model.specs.Record.{Record, unknown, kind_number, highest_kind}
use Rattle.btf_model.specs.Spelling.{IsRecord, IsWhole}
use Rattle.btf_model.specs.Refusal.{Refusal, InvalidHeader, InvalidTypeInfo, InvalidTypeKind}
use Rattle.btf_model.specs.Table.{Table, no_fallbacks, type_bytes, section_limit}

-- len bytes from an offset on
abbrev pub slice : ℕ → ℕ → List ℕ → List ℕ
slice at len bytes = take len (drop at bytes)

-- the word at an offset
abbrev pub word_at : Endianness → ℕ → List ℕ → ℕ
word_at order at bytes = word_of order (slice at 4 bytes)

-- The header: the first 24 bytes of a blob. The offsets of both sections count from hdr_len.
pub record Header : Type 0 where
  pub magic : ℕ
  pub version : ℕ
  pub flags : ℕ
  pub hdr_len : ℕ
  pub type_off : ℕ
  pub type_len : ℕ
  pub str_off : ℕ
  pub str_len : ℕ

-- the length of the header in bytes
abbrev pub header_len : ℕ
header_len = 24

-- the header that bytes begin with
abbrev pub header_of : Endianness → List ℕ → Header
header_of order bytes = record {
  magic = half_of order (slice 0 2 bytes);
  version = slice_index bytes 2;
  flags = slice_index bytes 3;
  hdr_len = word_at order 4 bytes;
  type_off = word_at order 8 bytes;
  type_len = word_at order 12 bytes;
  str_off = word_at order 16 bytes;
  str_len = word_at order 20 bytes;
}

-- the bytes of a header
abbrev pub header_bytes : Endianness → Header → List ℕ
header_bytes order h =
    half order h.magic ++ h.version ∷ h.flags
    ∷ flat_map (word order) (h.hdr_len ∷ h.type_off ∷ h.type_len ∷ h.str_off ∷ h.str_len ∷ [])

-- where the string section ends in a blob
abbrev pub strings_end : Header → ℕ
strings_end h = h.hdr_len + h.str_off + h.str_len

-- where the type section ends in a blob
abbrev pub types_end : Header → ℕ
types_end h = h.hdr_len + h.type_off + h.type_len

-- the bytes of the string section
abbrev pub string_section : Header → List ℕ → List ℕ
string_section h bytes = slice (h.hdr_len + h.str_off) h.str_len bytes

-- the bytes of the type section
abbrev pub type_section : Header → List ℕ → List ℕ
type_section h bytes = slice (h.hdr_len + h.type_off) h.type_len bytes

-- The bytes are the spellings of these records, one after another, with nothing left over.
abbrev pub AreRecords : Endianness → List ℕ → List Record → Type 0
AreRecords order bytes [] = bytes ≡ []
AreRecords order bytes (r ∷ rs) =
    (front rest : List ℕ) × (bytes ≡ front ++ rest) × IsRecord order front r × AreRecords order rest rs

-- The bytes represent the table. The header gives two slices of the bytes: the string section, and the spellings of the
-- records from id 1 on. Magic, version and flags are the header's. There are no fallbacks.
pub record IsTable (order : Endianness) (bytes : List ℕ) (t : Table) : Type 0 where
  pub header_fits : header_len ≤ length bytes
  pub strings_fit : strings_end (header_of order bytes) ≤ length bytes
  pub types_fit : types_end (header_of order bytes) ≤ length bytes
  pub same_order : t.order ≡ order
  pub magic : t.magic ≡ (header_of order bytes).magic
  pub version : t.version ≡ (header_of order bytes).version
  pub flags : t.flags ≡ (header_of order bytes).flags
  pub strings : t.strings ≡ string_section (header_of order bytes) bytes
  pub records : (rs : List Record) × (t.records ≡ unknown ∷ rs)
      × AreRecords order (type_section (header_of order bytes) bytes) rs
  pub fallbacks : t.fallbacks ≡ no_fallbacks t.records

-- The bytes begin with no spelling of a record.
abbrev pub BeginsNoRecord : Endianness → List ℕ → Type 0
BeginsNoRecord order bytes = (front rest : List ℕ) (r : Record) → bytes ≡ front ++ rest → IsRecord order front r → ⊥

-- why the bytes begin with no spelling of a record
abbrev pub rest_refusal : Endianness → List ℕ → Refusal
rest_refusal order rest =
    let kind = kind_number (word_at order 4 rest) in
    if nat_lt (length rest) 12 then InvalidTypeInfo
    else (if nat_lt highest_kind kind then InvalidTypeKind kind else InvalidTypeInfo)

-- What reading one record returns: the record whose spelling the bytes begin with, or why they begin with none.
abbrev pub ReadsFront : Endianness → List ℕ → Result Record Refusal → Type 0
ReadsFront order bytes (Ok r) = (front rest : List ℕ) × (bytes ≡ front ++ rest) × IsRecord order front r
ReadsFront order bytes (Err refusal) = BeginsNoRecord order bytes × (refusal ≡ rest_refusal order bytes)

-- What is left of the bytes after their longest front that consists of spellings.
pub record IsRest (order : Endianness) (bytes rest : List ℕ) : Type 0 where
  pub front : List ℕ
  pub whole : bytes ≡ front ++ rest
  pub cut : (rs : List Record) × AreRecords order front rs
  pub longest : (other more : List ℕ) (rs : List Record) → bytes ≡ other ++ more → AreRecords order other rs
      → length other ≤ length front

-- The first reason to refuse the bytes: a truncated header, a string section that does not fit, a type section that
-- does not fit, or bytes that are left after the longest front of records.
pub record IsRefusal (order : Endianness) (bytes : List ℕ) (refusal : Refusal) : Type 0 where
  pub header : length bytes < header_len → refusal ≡ InvalidHeader
  pub strings : header_len ≤ length bytes → length bytes < strings_end (header_of order bytes) → refusal ≡ InvalidHeader
  pub types : header_len ≤ length bytes → strings_end (header_of order bytes) ≤ length bytes
      → length bytes < types_end (header_of order bytes) → refusal ≡ InvalidTypeInfo
  pub record_at : header_len ≤ length bytes → strings_end (header_of order bytes) ≤ length bytes
      → types_end (header_of order bytes) ≤ length bytes
      → (rest : List ℕ) × IsRest order (type_section (header_of order bytes) bytes) rest × (rest ≢ [])
      × (refusal ≡ rest_refusal order rest)

-- What parsing returns: the table that the bytes represent, or the first reason to refuse them.
abbrev pub Parses : Endianness → List ℕ → Result Table Refusal → Type 0
Parses order bytes (Ok t) = IsTable order bytes t
Parses order bytes (Err refusal) = IsRefusal order bytes refusal

-- The header that is written: the table's own magic, version and flags, the usual header length, the types first, and
-- the strings after them.
abbrev pub canon_header : Table → Header
canon_header t = record {
  magic = t.magic;
  version = t.version;
  flags = t.flags;
  hdr_len = header_len;
  type_off = 0;
  type_len = length (type_bytes t);
  str_off = length (type_bytes t);
  str_len = length t.strings;
}

-- The one written form of a table. Fallbacks are not written.
abbrev pub canon : Table → List ℕ
canon t = header_bytes t.order (canon_header t) ++ type_bytes t ++ t.strings

-- A table that can be written. The header's three values fit in their fields, the lengths of both sections are within
-- the limit, record 0 is Unknown, reading retains all of each other record, and there is one fallback entry per record.
pub record IsValid (t : Table) : Type 0 where
  pub magic : t.magic < 2 ^ 16
  pub version : t.version < 2 ^ 8
  pub flags : t.flags < 2 ^ 8
  pub strings : length t.strings ≤ section_limit
  pub types : length (type_bytes t) ≤ section_limit
  pub records : (rs : List Record) × (t.records ≡ unknown ∷ rs) × AllByRecursion IsWhole rs
  pub fallbacks : length t.fallbacks ≡ length t.records
