-- An element of a list that is written.
use Rattle.std.proofs.Common.{◌≡◌, ◌≢◌, ◌<◌, ◌⊎◌, ℕ, zero, suc, List, [], ◌∷◌, length, set, refl, ap, inl, inr, Some, arith, slice_get}
use Rattle.std.proofs.lemmas.Bool.Decides.{eqb_tells}

module _ {X : Type 0} where
  pub set_here : (xs : List X) (i : ℕ) (v : X) → i < length xs → slice_get (set xs i v) i ≡ Some v
  set_here [] i v lt = absurd (omega arith)
  set_here (x ∷ xs) zero v lt = refl
  set_here (x ∷ xs) (suc i) v lt = set_here xs i v (omega arith)

  pub set_other : (xs : List X) (i j : ℕ) (v : X) → j ≢ i → slice_get (set xs i v) j ≡ slice_get xs j
  set_other [] i j v ne = refl
  set_other (x ∷ xs) zero zero v ne = absurd (ne refl)
  set_other (x ∷ xs) zero (suc j) v ne = refl
  set_other (x ∷ xs) (suc i) zero v ne = refl
  set_other (x ∷ xs) (suc i) (suc j) v ne = set_other xs i j v (λ e. ne (ap suc e))

pub same_or_not : (i j : ℕ) → (i ≡ j) ⊎ (i ≢ j)
same_or_not i j = elim (eqb_tells i j) [ inl h ↦ inl h.1 | inr h ↦ inr h.1 ]
