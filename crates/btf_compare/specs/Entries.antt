-- Pairs of ids, the local id first, in a list of entries.
use Rattle.std.specs.Prelude.{◌≡◌, ℕ, zero, suc, Bool, true, false, cond, List, [], ◌∷◌, Option, None, Some}
use Rattle.std.specs.Map.{lookup}
use Rattle.std.specs.BTreeMap.{is_at}
use Rattle.std.specs.declared.cmp.Ordering.{Ordering}
use Rattle.std.specs.Ordering.{nat_cmp, ordering_then}

-- the order of two pairs of ids: by the local ids, and then by the target ids
abbrev pub ids_cmp : ℕ × ℕ → ℕ × ℕ → Ordering
ids_cmp x y = ordering_then (nat_cmp x.0 y.0) (nat_cmp x.1 y.1)

-- whether two pairs of ids are equal
abbrev pub is_ids : ℕ × ℕ → ℕ × ℕ → Bool
is_ids x y = is_at (ids_cmp x) y

module _ {V : Type 0} where
  -- the list has no entry of the pair
  abbrev pub IsNoPair : ℕ × ℕ → List ((ℕ × ℕ) × V) → Type 0
  IsNoPair ids entries = lookup (is_ids ids) entries ≡ None

  -- the first entry of the pair has this index
  abbrev pub IsPlaceOf : ℕ × ℕ → List ((ℕ × ℕ) × V) → ℕ → Type 0
  IsPlaceOf ids [] index = ⊥
  IsPlaceOf ids (e ∷ es) zero = is_ids ids e.0 ≡ true
  IsPlaceOf ids (e ∷ es) (suc index) = (is_ids ids e.0 ≡ false) × IsPlaceOf ids es index

  -- the value of the pair becomes v, and no other changes
  abbrev pub Sets : (ℕ × ℕ → Option V) → (ℕ × ℕ → Option V) → ℕ × ℕ → V → Type 0
  Sets old new ids v = (other : ℕ × ℕ) → new other ≡ cond (is_ids ids other) (Some v) (old other)

  -- the value of each pair in a list of entries
  abbrev pub values_in : List ((ℕ × ℕ) × V) → ℕ × ℕ → Option V
  values_in entries ids = lookup (is_ids ids) entries
