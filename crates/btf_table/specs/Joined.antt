-- A table after another one. What this means for the types of a kernel module is in `btf_split_model`.
use Rattle.std.specs.Prelude.{◌≡◌, ◌<◌, ◌≤◌, ◌++◌, length, drop, Result, Ok, Err, take, ℕ}
use Rattle.btf_model.specs.Refusal.{Refusal, InvalidHeader, InvalidTypeInfo}
use Rattle.btf_model.specs.Table.{Table, no_fallbacks, type_bytes, section_limit}

-- the table and then the strings and the types of another one, without its id 0
abbrev pub followed : Table → Table → Table
followed t own = record t {
  strings = t.strings ++ own.strings;
  records = t.records ++ drop 1 own.records;
  fallbacks = t.fallbacks ++ drop 1 own.fallbacks;
}

-- the strings and the records of a base, with the byte order and the header of another table
abbrev pub under : Table → Table → Table
under base own = record own { strings = base.strings; records = base.records; fallbacks = no_fallbacks base.records }

-- both sections of the table are within their limit
pub record IsWithinLimit (t : Table) : Type 0 where
  pub strings : length t.strings ≤ section_limit
  pub types : length (type_bytes t) ≤ section_limit

-- The first reason why the sections of a table do not fit in a blob: the strings are too long, or else the types.
pub record ExceedsLimit (t : Table) (refusal : Refusal) : Type 0 where
  pub strings : section_limit < length t.strings → refusal ≡ InvalidHeader
  pub types : length t.strings ≤ section_limit
      → (section_limit < length (type_bytes t)) × (refusal ≡ InvalidTypeInfo)

-- what a call returns that refuses a table whose sections are too long, and otherwise returns a value with P
abbrev pub Fits : {X : Type 0} → Table → (X → Type 0) → Result X Refusal → Type 0
Fits t P (Ok x) = P x × IsWithinLimit t
Fits t P (Err refusal) = ExceedsLimit t refusal

-- The table keeps these numbers of string bytes and types, and nothing else changes.
abbrev pub CutsTable : Table → Table → ℕ → ℕ → Type 0
CutsTable old_table new_table types strings =
    new_table ≡ record old_table {
      strings = take strings old_table.strings;
      records = take types
          old_table.records;
      fallbacks = take types old_table.fallbacks;
    }
