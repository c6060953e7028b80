-- The index of a target's types.
use Rattle.std.specs.Prelude.{◌≡◌, ℕ, not, Bool, List, [], drop, filter, slice_get, Option, Some, None}
use Rattle.std.specs.Cmp.Lexicographic.{slice_cmp}
use Rattle.std.specs.List.Sorted.{IsSortedBy, ties}
use Rattle.std.specs.Ordering.{ordering_then, nat_cmp, is_lt}
use Rattle.std.specs.declared.cmp.Ordering.{Ordering}
use Rattle.btf_model.specs.Record.{Record, kind_number}
use Rattle.btf_model.specs.Table.{Table}
use Rattle.btf_plain.specs.declared.kind.BtfKind.{BtfKind}
use Rattle.btf_plain.specs.declared.kind.BtfKind.TheVariants.{Unknown, Int, Ptr, Array, Struct, Union, Enum, Fwd, Typedef, Volatile, Const, Restrict, Func, FuncProto, Var, DataSec, Float, DeclTag, TypeTag, Enum64}
use Rattle.btf_relocate_model.specs.Candidates.{compared_number, is_nameless, ids_from}
use Rattle.btf_relocate_model.specs.Name.{essential}
use Rattle.btf_relocate_model.specs.Types.{name_or_none}

-- the number of a kind
abbrev pub kind_code : BtfKind → ℕ
kind_code Unknown = 0
kind_code Int = 1
kind_code Ptr = 2
kind_code Array = 3
kind_code Struct = 4
kind_code Union = 5
kind_code Enum = 6
kind_code Fwd = 7
kind_code Typedef = 8
kind_code Volatile = 9
kind_code Const = 10
kind_code Restrict = 11
kind_code Func = 12
kind_code FuncProto = 13
kind_code Var = 14
kind_code DataSec = 15
kind_code Float = 16
kind_code DeclTag = 17
kind_code TypeTag = 18
kind_code Enum64 = 19

-- the key of a record: its essential name and the number of its kind
abbrev pub record_key : Table → Record → List ℕ × ℕ
record_key t r = (essential (name_or_none t r.name), compared_number (kind_number r.info))

abbrev pub key_by : Table → Option Record → List ℕ × ℕ
key_by t (Some r) = record_key t r
key_by t None = ([], 0)

-- the key of a type
abbrev pub key_of : Table → ℕ → List ℕ × ℕ
key_of t id = key_by t (slice_get t.records id)

-- the order of keys: by name, and then by kind
abbrev pub key_cmp : List ℕ × ℕ → List ℕ × ℕ → Ordering
key_cmp x y = ordering_then (slice_cmp nat_cmp x.0 y.0) (nat_cmp x.1 y.1)

abbrev pub key_lt : List ℕ × ℕ → List ℕ × ℕ → Bool
key_lt x y = is_lt (key_cmp x y)

-- whether a type has a name
abbrev pub is_named : Table → Record → Bool
is_named t r = not (is_nameless (essential (name_or_none t r.name)))

-- the ids of the types that have a name, in rising order
abbrev pub ids_with_name : Table → List ℕ
ids_with_name t = ids_from (is_named t) 1 (drop 1 t.records)

-- The ids are those of the types that have a name, in the order of their keys. Those of one key rise.
pub record IsIndex (t : Table) (ids : List ℕ) : Type 0 where
  pub sorted : IsSortedBy (λ x y. key_lt (key_of t x) (key_of t y)) ids
  pub same : (k : List ℕ × ℕ) → filter (λ id. ties key_lt k (key_of t id)) ids
      ≡ filter (λ id. ties key_lt k (key_of t id)) (ids_with_name t)
