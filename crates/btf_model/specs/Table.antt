-- Tables: what a blob represents.
-- Source: the kernel's BTF documentation, "BTF Type and String Encoding"; the fallbacks are aya-obj's, for an ENUM64
-- that a rewrite changed to a UNION.
use Rattle.std.specs.Prelude.{ℕ, ◌+◌, nat_le, if◌then◌else◌, Bool, List, [], ◌∷◌, ◌++◌, length, map, drop, Option, None, Result, Ok, Err}
use Rattle.std.specs.List.{flat_map}
use Rattle.btf_model.specs.declared.endianness.Endianness.{Endianness}
use Rattle.btf_model.specs.declared.endianness.Endianness.TheVariants.{Little}
use Rattle.btf_model.specs.Record.{Record, unknown}
use Rattle.btf_model.specs.Refusal.{Refusal, InvalidStringOffset, InvalidTypeInfo}
use Rattle.btf_model.specs.Spelling.{spell}

-- the variant of an ENUM64 that became a UNION: the string offset of its name, and its 64-bit value
pub record Variant : Type 0 where
  pub name : ℕ
  pub value : ℕ

-- the ENUM64 that a UNION replaces
pub record Fallback : Type 0 where
  pub signed : Bool
  pub variants : List Variant

-- a UNION: its record, and the ENUM64 that it replaces, if there is one
pub record UnionRecord : Type 0 where
  pub words : Record
  pub fallback : Option Fallback

-- A table: the byte order, three values of the header, the string section, the records from id 0 on, and for each id
-- the fallback of its UNION, if there is one.
pub record Table : Type 0 where
  pub order : Endianness
  pub magic : ℕ
  pub version : ℕ
  pub flags : ℕ
  pub strings : List ℕ
  pub records : List Record
  pub fallbacks : List (Option Fallback)

-- no fallback for any of these records
abbrev pub no_fallbacks : List Record → List (Option Fallback)
no_fallbacks rs = map (λ _. None) rs

-- the table without its fallbacks, which are not written
abbrev pub strip : Table → Table
strip t = record t { fallbacks = no_fallbacks t.records }

-- the bytes of the type section: the spellings of the records from id 1 on
abbrev pub type_bytes : Table → List ℕ
type_bytes t = flat_map (spell t.order) (drop 1 t.records)

-- the maximum length of the string section and of the type section
abbrev pub section_limit : ℕ
section_limit = 4294967295

-- A new table: one string byte, which is zero, and one type, Unknown.
abbrev pub empty_table : Table
empty_table = record {
  order = Little;
  magic = 0xeb9f;
  version = 1;
  flags = 0;
  strings = 0 ∷ [];
  records = unknown ∷ [];
  fallbacks = None ∷ [];
}

-- the table with a text and a zero byte at the end of its strings
abbrev pub with_string : List ℕ → Table → Table
with_string text t = record t { strings = t.strings ++ text ++ 0 ∷ [] }

-- the table with a record and its fallback appended as the last type
abbrev pub with_type : Record → Option Fallback → Table → Table
with_type r fallback t = record t { records = t.records ++ r ∷ []; fallbacks = t.fallbacks ++ fallback ∷ [] }

-- The string offset of a text that is appended, if the text and its zero byte fit in the section.
abbrev pub string_place : List ℕ → Table → Result ℕ Refusal
string_place text t =
    if nat_le (length t.strings + (length text + 1)) section_limit then Ok (length t.strings)
    else Err (InvalidStringOffset (length t.strings))

-- The id of a record that is appended, if its spelling fits in the section.
abbrev pub type_place : Record → Table → Result ℕ Refusal
type_place r t =
    if nat_le (length (type_bytes t) + length (spell t.order r)) section_limit then Ok (length t.records)
    else Err InvalidTypeInfo
