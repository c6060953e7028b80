-- Records that a rewrite makes, and the items of the records that it reads. Source: the kernel's BTF documentation,
-- "Type Encoding"; aya-obj's `fixup_and_sanitize` determines which record replaces which.
use Rattle.std.specs.Prelude.{ℕ, ◌+◌, ◌^◌, ◌==◌, ◌&&◌, not, Bool, false, List, [], ◌∷◌, length, slice_index, slice_get, unwrap_or, Option}
use Rattle.std.specs.List.{flat_map, range_with_len}
use Rattle.btf_model.specs.Record.{Kind, Record, unknown, kind_of}
use Rattle.btf_model.specs.Info.{with_vlen, with_flag}
use Rattle.btf_model.specs.Table.{Table, Fallback}
use Rattle.btf_model.specs.Made as made
pub use Rattle.btf_model.specs.Made.{const, typedef, struct, union, enum}
pub use Rattle.btf_model.specs.Value.{enum64_variants as variants}
use Rattle.btf_rewrite_model.specs.Feature.{is_signed}

-- the record of an id, or Unknown if it has none
abbrev pub record_at : Table → ℕ → Record
record_at t id = unwrap_or (slice_get t.records id) unknown

-- the kind of the record of an id
abbrev pub kind_at : Table → ℕ → Option Kind
kind_at t id = kind_of (record_at t id).info

-- the ids of a table
abbrev pub table_ids : Table → List ℕ
table_ids t = range_with_len 0 (length t.records)

-- ---- items

-- an entry of a DATASEC: a VAR or FUNC, its offset and its size
pub record Entry : Type 0 where
  pub type : ℕ
  pub offset : ℕ
  pub size : ℕ

-- the entries in the words of a DATASEC
abbrev pub section_entries : List ℕ → List Entry
section_entries (type ∷ offset ∷ size ∷ words) = record { type = type; offset = offset; size = size } ∷ section_entries words
section_entries words = []

-- the words of an entry
abbrev pub entry_words : Entry → List ℕ
entry_words e = e.type ∷ e.offset ∷ e.size ∷ []

-- a variable's linkage, which is its only word after the third, is Static
abbrev pub is_static : Record → Bool
is_static r = slice_index r.tail 0 == 0

-- a parameter that has a type and no name; the `...` of a variadic function has no type
abbrev pub wants_name : ℕ → ℕ → Bool
wants_name name type = name == 0 && not (type == 0)

-- ---- records

-- an INT of one byte, without sign
abbrev pub byte_int : ℕ → Record
byte_int name = made.int name 1 8

-- the INT of C's `int`: 4 bytes, signed
abbrev pub c_int : ℕ → Record
c_int name = made.int name 4 (2 ^ 24 + 32)

-- a VAR of Static linkage
abbrev pub static_var : ℕ → ℕ → Record
static_var name type = made.var name type 0

-- a DATASEC with this number of entries
abbrev pub made_data_sec : ℕ → ℕ → ℕ → List Entry → Record
made_data_sec name size count es = made.data_sec name size count (flat_map entry_words es)

-- a FUNC with another linkage, which is its vlen
abbrev pub with_linkage : ℕ → Record → Record
with_linkage n r = record r { info = with_vlen r.info n }

-- an ENUM without its sign
abbrev pub unsigned : Record → Record
unsigned r = record r { info = with_flag r.info false }

-- what an ENUM64 records and a UNION does not
abbrev pub enum64_fallback : Record → Fallback
enum64_fallback r = record { signed = is_signed r; variants = variants r.tail }
