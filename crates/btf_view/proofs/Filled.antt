-- Values that are written to the places of a buffer, one after another.
use Rattle.std.proofs.Common.{◌≡◌, ◌≢◌, ◌<◌, ◌+◌, ℕ, List, [], ◌∷◌, length, get_or, set, ap, arith, below_more, refl, subst, sym}
use Rattle.std.specs.Prelude.{map}
use Rattle.std.proofs.lemmas.List.{get_or-set_other, get_or-set_same}

-- Values that are written to the places of a buffer, one after another.
pub map_twice : {X Y Z : Type 0} (f : X → Y) (g : Y → Z) (xs : List X) → map (λ x. g (f x)) xs ≡ map g (map f xs)
map_twice f g [] = refl
map_twice f g (x ∷ xs) = ap (λ zs. g (f x) ∷ zs) (map_twice f g xs)

-- Values that are written to the places of a buffer, one after another.
pub filled_more : (P : ℕ → ℕ → Type 0) (xs : List ℕ) (i x : ℕ) → i < length xs → ((k : ℕ) → k < i → P k (get_or xs k 0)) → P i x
    → (k : ℕ) → k < i + 1 → P k (get_or (set xs i x) k 0)
filled_more P xs i x lt before now = below_more _ _
    (λ k h. let ne : k ≢ i = omega arith in subst (P k) (sym (get_or-set_other xs i k x 0 ne)) (before k h))
    (subst (P i) (sym (get_or-set_same xs i x 0 lt)) now)
