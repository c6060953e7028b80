-- Split tables: the types of a kernel module, written after the types of the kernel, its base.
-- Source: the kernel's BTF documentation, ".BTF.base section", on split BTF: the ids of the split table begin after the
-- last id of the base; and libbpf's `btf__new_split`: the string offsets go on after the base's strings. The limits are
-- those of one blob.
use Rattle.std.specs.Prelude.{◌≡◌, ◌⊎◌, ℕ, ◌<◌, ◌≤◌, ◌==◌, ◌||◌, nat_lt, if◌then◌else◌, List, ◌∷◌, ◌++◌, length, take, drop, Result, Ok, Err}
use Rattle.btf_model.specs.declared.endianness.Endianness.{Endianness}
use Rattle.btf_model.specs.Record.{Record, unknown}
use Rattle.btf_model.specs.Refusal.{Refusal, InvalidHeader, InvalidTypeInfo, InvalidStringOffset, UnknownBtfType}
use Rattle.btf_model.specs.Table.{Table, no_fallbacks, type_bytes, section_limit}
use Rattle.btf_model.specs.Blob.{IsTable, IsRefusal, canon}

-- the table with these strings and records, and without fallbacks
abbrev pub with_sections : List ℕ → List Record → Table → Table
with_sections strings records t = record t { strings = strings; records = records; fallbacks = no_fallbacks records }

-- The base with another table after it: the base's strings and then the other's, and the base's records and then the
-- other's, without its id 0, which a split table does not repeat. Ids and string offsets stay as they are written. The
-- byte order and the header's values are the other table's.
abbrev pub joined : Table → Table → Table
joined base own = with_sections (base.strings ++ own.strings) (base.records ++ drop 1 own.records) own

-- The bytes are a split table over the base: a blob, which represents a table of its own. The base with this table
-- after it is t, whose sections are within the limit.
pub record IsJoined (order : Endianness) (base : Table) (bytes : List ℕ) (t : Table) : Type 0 where
  pub own : Table
  pub blob : IsTable order bytes own
  pub whole : t ≡ joined base own
  pub strings : length t.strings ≤ section_limit
  pub types : length (type_bytes t) ≤ section_limit

-- The first reason why a blob cannot have sections of these lengths: the strings are too long, or else the types are.
pub record IsTooLong (string_len type_len : ℕ) (refusal : Refusal) : Type 0 where
  pub strings : section_limit < string_len → refusal ≡ InvalidHeader
  pub types : string_len ≤ section_limit → (section_limit < type_len) × (refusal ≡ InvalidTypeInfo)

-- The first reason to refuse the bytes as a split table over the base: the bytes are refused as a blob, or their
-- table is too long together with the base.
abbrev pub IsJoinedRefusal : Endianness → Table → List ℕ → Refusal → Type 0
IsJoinedRefusal order base bytes refusal =
    IsRefusal order bytes refusal
    ⊎ ((own : Table) × IsTable order bytes own
    × IsTooLong (length (joined base own).strings) (length (type_bytes (joined base own))) refusal)

-- What parsing a split table returns: the base with the table, or the first reason to refuse the bytes.
abbrev pub Joins : Endianness → Table → List ℕ → Result Table Refusal → Type 0
Joins order base bytes (Ok t) = IsJoined order base bytes t
Joins order base bytes (Err refusal) = IsJoinedRefusal order base bytes refusal

-- The table begins with the records and the strings of the base.
pub record Extends (base t : Table) : Type 0 where
  pub records : take (length base.records) t.records ≡ base.records
  pub strings : take (length base.strings) t.strings ≡ base.strings

-- The part of a table above a base with these numbers of records, id 0 included, and of bytes of strings. It is a table
-- of its own.
abbrev pub above : ℕ → ℕ → Table → Table
above records strings t = with_sections (drop strings t.strings) (unknown ∷ drop records t.records) t

-- The one written form of a split table: the blob of the part above the base.
abbrev pub split_canon : ℕ → ℕ → Table → List ℕ
split_canon records strings t = canon (above records strings t)

-- A value for a table and a base of these numbers of records and of bytes of strings. It is refused if the base has no
-- id 0 or the table has fewer records, and then if the table has fewer bytes of strings.
abbrev pub over_base : {X : Type 0} → ℕ → ℕ → Table → X → Result X Refusal
over_base records strings t x =
    if records == 0 || nat_lt (length t.records) records then Err (UnknownBtfType records)
    else (if nat_lt (length t.strings) strings then Err (InvalidStringOffset strings)
    else Ok x)

-- what writing the part above the base returns, by the base's numbers of records and of bytes of strings
abbrev pub split_blob : ℕ → ℕ → Table → Result (List ℕ) Refusal
split_blob records strings t = over_base records strings t (split_canon records strings t)

-- The base to which a split table was appended: the strings and the records of the table that they are joined to. The
-- byte order, the header's values and the fallbacks are the base's.
abbrev pub appended : Table → Table → Table
appended base t = record base {
  strings = t.strings;
  records = t.records;
  fallbacks = base.fallbacks ++ no_fallbacks (drop (length base.records) t.records);
}

-- What appending a split table to its base makes of the base, or the first reason to refuse the bytes.
abbrev pub Appends : Endianness → Table → List ℕ → Result Table Refusal → Type 0
Appends order base bytes (Ok new) = (t : Table) × IsJoined order base bytes t × (new ≡ appended base t)
Appends order base bytes (Err refusal) = IsJoinedRefusal order base bytes refusal

-- the first records and the first bytes of the strings
abbrev pub cut : ℕ → ℕ → Table → Table
cut records strings t = record t {
  strings = take strings t.strings;
  records = take records t.records;
  fallbacks = take records t.fallbacks;
}
