-- Pairs of known ids, which are finitely many, and the pairs that are open among them.
use Rattle.std.proofs.Common.{◌≡◌, ◌≢◌, ℕ, zero, suc, ◌*◌, ◌<◌, List, [], ◌∷◌, ◌++◌, length, refl, sym, ap, subst, ◌∙◌, arith, inl, inr, Contains}
use Rattle.std.specs.Prelude.{◌⊎◌, slice_index_or, Some, slice_get}
use Rattle.std.proofs.lemmas.Bool.{cases_eq}
use Rattle.std.proofs.lemmas.List.{length-append}
use Rattle.std.proofs.lemmas.Option.{slice_get_within}
use Rattle.btf_model.specs.Record.{Record}
use Rattle.btf_model.specs.Table.{Table}
use Rattle.btf_model.specs.Fields.{Pair}
use Rattle.btf_model.proofs.Comparisons.{same_pair}

-- ---- membership, by recursion

abbrev pub Among : List Pair → Pair → Type 0
Among [] p = ⊥
Among (q ∷ qs) p = (q ≡ p) ⊎ Among qs p

among_at : (qs : List Pair) (p : Pair) (k : ℕ) → k < length qs → slice_index_or qs k p ≡ p → Among qs p
among_at [] p k lt is = absurd (omega (arith, lt))
among_at (q ∷ qs) p zero lt is = inl is
among_at (q ∷ qs) p (suc k) lt is = inr (among_at qs p k (omega (arith, lt)) is)

pub among_from_contains : (qs : List Pair) (p : Pair) → Contains qs p → Among qs p
among_from_contains qs p h = among_at qs p h.0 h.1 h.2

pub contains_from_among : (qs : List Pair) (p : Pair) → Among qs p → Contains qs p
contains_from_among [] p m = elim m [ ]
contains_from_among (q ∷ qs) p (inl is) = (zero, omega arith, is)
contains_from_among (q ∷ qs) p (inr m) = let rest = contains_from_among qs p m in (suc rest.0, omega (arith, rest.1), rest.2)

same_or_not : (p q : Pair) → (p ≡ q) ⊎ (p ≢ q)
same_or_not p q =
    elim (cases_eq p.local q.local) [
      | inr other ↦ inr (λ e. other (ap (λ (x : Pair). x.local) e))
      | inl here ↦ elim (cases_eq p.target q.target) [
        | inr other ↦ inr (λ e. other (ap (λ (x : Pair). x.target) e))
        | inl there ↦ inl (same_pair p q here there)
      ]
    ]

pub among_or_not : (qs : List Pair) (p : Pair) → Among qs p ⊎ (Among qs p → ⊥)
among_or_not [] p = inr (λ h. h)
among_or_not (q ∷ qs) p =
    elim (same_or_not q p) [
      | inl is ↦ inl (inl is)
      | inr other ↦ elim (among_or_not qs p) [
        | inl m ↦ inl (inr m)
        | inr none ↦ inr (elim [ inl is ↦ other is | inr m ↦ none m ])
      ]
    ]

-- whether a pair is open
pub open_or_not : (above : List Pair) (p : Pair) → Contains above p ⊎ ¬ (Contains above p)
open_or_not above p =
    elim (among_or_not above p) [
      | inl m ↦ inl (contains_from_among above p m)
      | inr none ↦ inr (λ h. none (among_from_contains above p h))
    ]

-- ---- all pairs of known ids

-- the pairs of a local id with the target ids below n
row : ℕ → ℕ → List Pair
row id zero = []
row id (suc n) = record { local = id; target = n } ∷ row id n

-- the pairs of the local ids below m with the target ids below n
all_pairs : ℕ → ℕ → List Pair
all_pairs zero n = []
all_pairs (suc m) n = row m n ++ all_pairs m n

among_left : (qs ts : List Pair) (p : Pair) → Among qs p → Among (qs ++ ts) p
among_left [] ts p m = elim m [ ]
among_left (q ∷ qs) ts p (inl is) = inl is
among_left (q ∷ qs) ts p (inr m) = inr (among_left qs ts p m)

among_right : (qs ts : List Pair) (p : Pair) → Among ts p → Among (qs ++ ts) p
among_right [] ts p m = m
among_right (q ∷ qs) ts p m = inr (among_right qs ts p m)

in_row : (n : ℕ) (p : Pair) → p.target < n → Among (row p.local n) p
unfolding row
in_row zero p lt = absurd (omega (arith, lt))
in_row (suc n) p lt =
    elim (cases_eq n p.target) [
      | inl is ↦ inl (same_pair (record { local = p.local; target = n }) p refl is)
      | inr other ↦ inr (in_row n p (omega (arith, lt, other)))
    ]

in_all_pairs : (m n : ℕ) (p : Pair) → p.local < m → p.target < n → Among (all_pairs m n) p
unfolding all_pairs
in_all_pairs zero n p lt there = absurd (omega (arith, lt))
in_all_pairs (suc m) n p lt there =
    elim (cases_eq p.local m) [
      | inl is ↦ among_left (row m n) (all_pairs m n) p (subst (λ (x : ℕ). Among (row x n) p) is (in_row n p there))
      | inr other ↦ among_right (row m n) (all_pairs m n) p (in_all_pairs m n p (omega (arith, lt, other)) there)
    ]

-- both ids of the pair have a record
abbrev pub HasIds : Table → Table → Pair → Type 0
HasIds local target p = (r s : Record) × (slice_get local.records p.local ≡ Some r) × (slice_get target.records p.target ≡ Some s)

-- each pair of known ids is open or one of these
abbrev pub Covers : Table → Table → List Pair → List Pair → Type 0
Covers local target rest above = (p : Pair) → HasIds local target p → Contains above p ⊎ Among rest p

-- the list of all of them
pub known_pairs : Table → Table → List Pair
known_pairs local target = all_pairs (length local.records) (length target.records)

pub known_pairs_cover : (local target : Table) (above : List Pair) → Covers local target (known_pairs local target) above
unfolding known_pairs
known_pairs_cover local target above p h =
    inr (in_all_pairs (length local.records) (length target.records) p (slice_get_within local.records p.local h.0 h.2) (slice_get_within target.records p.target h.1 h.3))

length-row : (id n : ℕ) → length (row id n) ≡ n
unfolding row
length-row id zero = refl
length-row id (suc n) = omega (arith, length-row id n)

length-all_pairs : (m n : ℕ) → length (all_pairs m n) ≡ m * n
unfolding all_pairs
length-all_pairs zero n = omega arith
length-all_pairs (suc m) n = omega (arith, length-append (row m n) (all_pairs m n), length-row m n, length-all_pairs m n)

pub length-known_pairs : (local target : Table) → length (known_pairs local target) ≡ length local.records * length target.records
unfolding known_pairs
length-known_pairs local target = length-all_pairs (length local.records) (length target.records)

pub known_pairs_among : (local target : Table) (p : Pair) → HasIds local target p → Among (known_pairs local target) p
known_pairs_among local target p ids = elim (known_pairs_cover local target [] p ids) [ inl h ↦ elim (among_from_contains [] p h) [ ] | inr m ↦ m ]

-- ---- one more open pair

-- the list without one of its pairs
pub record Without (qs : List Pair) (p : Pair) : Type 0 where
  pub rest : List Pair
  pub shorter : length qs ≡ suc (length rest)
  pub others : (q : Pair) → Among qs q → (p ≡ q) ⊎ Among rest q

pub without : (qs : List Pair) (p : Pair) → Among qs p → Without qs p
without [] p m = elim m [ ]
without (q ∷ qs) p (inl is) = record {
  rest = qs;
  shorter = refl;
  others = λ t. elim [ inl e ↦ inl (sym is ∙ e) | inr m ↦ inr m ];
}
without (q ∷ qs) p (inr m) =
    let fewer = without qs p m in
    record {
      rest = q ∷ fewer.rest;
      shorter = ap (λ (n : ℕ). suc n) fewer.shorter;
      others = λ t. elim [ inl e ↦ inr (inl e) | inr h ↦ elim (fewer.others t h) [ inl e ↦ inl e | inr g ↦ inr (inr g) ] ];
    }

open_still : (above : List Pair) (p q : Pair) → (p ≡ q) ⊎ Contains above q → Contains (p ∷ above) q
open_still above p q (inl is) = contains_from_among (p ∷ above) q (inl is)
open_still above p q (inr h) = contains_from_among (p ∷ above) q (inr (among_from_contains above q h))

-- after a pair is opened, the rest without it still covers all other pairs
pub still_covers : (local target : Table) (above rest : List Pair) (p : Pair) (fewer : Without rest p) → Covers local target rest above → Covers local target fewer.rest (p ∷ above)
still_covers local target above rest p fewer covers q known =
    elim (covers q known) [
      | inl h ↦ inl (open_still above p q (inr h))
      | inr m ↦ elim (fewer.others q m) [
        | inl is ↦ inl (open_still above p q (inl is))
        | inr g ↦ inr g
      ]
    ]
