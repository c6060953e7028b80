-- Types of a table that change in place.
use Rattle.std.specs.Prelude.{◌≡◌, ℕ, ◌<◌, List, [], ◌∷◌, set, get_or, map, slice_get, Some}
use Rattle.std.specs.List.{AllByRecursion, sum_by}
use Rattle.btf_model.specs.Record.{Kind, Record, unknown, kind_of}
use Rattle.btf_model.specs.Table.{Table}
use Rattle.btf_rewrite_model.specs.Checks.{record_len}
use Rattle.btf_records.specs.BtfType.{record_of, fallback_of}
use Rattle.btf_records.specs.declared.btf_type.BtfType.{BtfType}
use Rattle.btf_table.specs.InPlace.{denied}

-- each of these records has a kind
abbrev pub AllHaveKinds : List Record → Type 0
AllHaveKinds rs = (id : ℕ) (r : Record) → slice_get rs id ≡ Some r → (k : Kind) × (kind_of r.info ≡ Some k)

-- each id is above 0 and below this number of types
abbrev pub AreTypeIds : ℕ → List ℕ → Type 0
AreTypeIds count ids = AllByRecursion (λ (id : ℕ). (0 < id) × (id < count)) ids

-- the records, with the records of these ids denied in order
abbrev pub deny_all : List ℕ → List Record → List Record
deny_all [] rs = rs
deny_all (id ∷ ids) rs = deny_all ids (set rs id (denied (get_or rs id unknown)))

-- the table, with the types of these ids denied
abbrev pub with_denied : List ℕ → Table → Table
with_denied ids t = record t { records = deny_all ids t.records }

-- The new types are the old types with the types of these ids denied. Their fallbacks and their total length are
-- unchanged, and they still have kinds.
pub record AreDenied (ids : List ℕ) (old new : List BtfType) : Type 0 where
  pub records : map record_of new ≡ deny_all ids (map record_of old)
  pub fallbacks : map fallback_of new ≡ map fallback_of old
  pub len : sum_by record_len (map record_of new) ≡ sum_by record_len (map record_of old)
  pub kinds : AllHaveKinds (map record_of old) → AllHaveKinds (map record_of new)
