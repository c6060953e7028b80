-- Changes of a table, which are stored apart from it until they are applied.
use Rattle.std.specs.Prelude.{◌≡◌, ℕ, ◌+◌, ◌<◌, ◌≤◌, List, [], ◌∷◌, ◌++◌, length, map, set, take, get_or}
use Rattle.std.specs.List.{AllByRecursion}
use Rattle.btf_model.specs.Table.{Table, type_bytes, section_limit}
use Rattle.btf_model.specs.Fields.{HaveKinds}
use Rattle.btf_records.specs.BtfType.{record_of, fallback_of}
use Rattle.btf_records.specs.declared.btf_type.BtfType.{BtfType}
use Rattle.btf_table.specs.declared.table.changes.Changes.{Changes}
use Rattle.btf_table.specs.declared.table.changes.Undo.{Undo}
use Rattle.btf_model.specs.Record.{Record, unknown}

-- a list with some elements replaced in order, each at its index
abbrev pub put_all : {X : Type 0} → List (ℕ × X) → List X → List X
put_all [] xs = xs
put_all (c ∷ cs) xs = put_all cs (set xs c.0 c.1)

-- a list with some elements replaced in reverse order, which reverts `put_all`
abbrev pub put_back : {X : Type 0} → List (ℕ × X) → List X → List X
put_back [] xs = xs
put_back (c ∷ cs) xs = set (put_back cs xs) c.0 c.1

-- the element at each index before it was replaced
abbrev pub before_changes : {X : Type 0} → List (ℕ × X) → List X → List (ℕ × X)
before_changes [] xs = []
before_changes (c ∷ cs) xs = (c.0, get_or xs c.0 c.1) ∷ before_changes cs (set xs c.0 c.1)

-- what the function gives for each new type, with the type's id
abbrev pub each : {X : Type 0} → (BtfType → X) → List (ℕ × BtfType) → List (ℕ × X)
each f cs = map (λ (c : ℕ × BtfType). (c.0, f c.1)) cs

-- each id is above 0 and below this number of types
abbrev pub AreInside : ℕ → List (ℕ × BtfType) → Type 0
AreInside count cs = AllByRecursion (λ (c : ℕ × BtfType). (0 < c.0) × (c.0 < count)) cs

-- the table after the changes are applied
abbrev pub changed : Table → Changes → Table
changed t c = record t {
  strings = t.strings ++ c.new_strings.items;
  records = put_all (each record_of c.types.items) t.records ++ map record_of c.new_types.items;
  fallbacks = put_all (each fallback_of c.types.items) t.fallbacks ++ map fallback_of c.new_types.items;
}

-- The changes are for this table: their ids exist in it. After the changes both sections are within their limit, the
-- type length is correct, and each record has a kind.
pub record AreChangesOf (t : Table) (c : Changes) : Type 0 where
  pub ids : AreInside (length t.records) c.types.items
  pub strings : length t.strings + length c.new_strings.items ≤ section_limit
  pub limit : c.type_len ≤ section_limit
  pub types : c.type_len ≡ length (type_bytes (changed t c))
  pub kinds : HaveKinds (changed t c)

-- the table after the changes are reverted
abbrev pub undone : Table → Undo → Table
undone t u = record t {
  strings = take u.string_len t.strings;
  records = take u.count (put_back (each record_of u.types.items) t.records);
  fallbacks = take u.count (put_back (each fallback_of u.types.items) t.fallbacks);
}

-- This undo record reverts the new table to the old one.
pub record Undoes (undo : Undo) (new old : Table) : Type 0 where
  pub table : undone new undo ≡ old
  pub ids : AreInside (length new.records) undo.types.items
  pub strings : length old.strings ≤ section_limit
  pub limit : undo.type_len ≤ section_limit
  pub types : undo.type_len ≡ length (type_bytes old)
  pub first : (rs : List Record) × (old.records ≡ unknown ∷ rs)
  pub kinds : HaveKinds old
