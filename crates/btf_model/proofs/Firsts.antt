-- The pairs of a list, each at its first place.
use Rattle.std.proofs.Common.{◌≡◌, List, [], ◌∷◌, ◌++◌, refl, sym, ap, subst, ◌∙◌, inl, inr, Bool, true, false, append_assoc}
use Rattle.std.specs.Prelude.{◌==◌, ◌&&◌, not}
use Rattle.std.specs.List.{filter}
use Rattle.std.proofs.lemmas.Bool.{eqb-true, eq-eqb, false≢true}
use Rattle.std.proofs.lemmas.List.{append-nil}
use Rattle.std.proofs.lemmas.List.Elements.{filter-append}
use Rattle.btf_model.specs.Fields.{Pair}
use Rattle.btf_model.specs.Compat.{pair_eq, firsts}
use Rattle.btf_model.proofs.Comparisons.{same_pair}
use Rattle.btf_model.proofs.Known.{Among, among_or_not}

-- ---- the test for one pair

both_true : (a b : Bool) → (a && b) ≡ true → (a ≡ true) × (b ≡ true)
both_true true b is = (refl, is)
both_true false b is = absurd (false≢true is)

pub eq_itself : (p : Pair) → pair_eq p p ≡ true
eq_itself p = rw (eq-eqb p.local p.local refl, eq-eqb p.target p.target refl) refl

pub eq_same : (p q : Pair) → pair_eq p q ≡ true → p ≡ q
eq_same p q is =
    let both = both_true (p.local == q.local) (p.target == q.target) is in
    same_pair p q (eqb-true p.local q.local both.0) (eqb-true p.target q.target both.1)

false_unless : (a : Bool) → (a ≡ true → ⊥) → a ≡ false
false_unless true never = absurd (never refl)
false_unless false never = refl

pub eq_other : (p q : Pair) → (p ≡ q → ⊥) → pair_eq p q ≡ false
eq_other p q other = false_unless (pair_eq p q) (λ is. other (eq_same p q is))

-- ---- one more pair at the end

others : Pair → List Pair → List Pair
others p qs = filter (λ q. not (pair_eq p q)) qs

others_append : (p : Pair) (qs rs : List Pair) → others p (qs ++ rs) ≡ others p qs ++ others p rs
unfolding others
others_append p qs rs = filter-append (λ q. not (pair_eq p q)) qs rs

others_with : (p q : Pair) → (p ≡ q → ⊥) → others p (q ∷ []) ≡ q ∷ []
unfolding others
others_with p q other = rw (eq_other p q other) refl

others_without : (p q : Pair) → p ≡ q → others p (q ∷ []) ≡ []
unfolding others
others_without p q is = subst (λ (x : Pair). others p (x ∷ []) ≡ []) is (rw (eq_itself p) refl)

firsts_cons : (p : Pair) (ps : List Pair) → firsts (p ∷ ps) ≡ p ∷ others p (firsts ps)
unfolding others
firsts_cons p ps = refl

pub firsts_new : (ps : List Pair) (q : Pair) → (Among ps q → ⊥) → firsts (ps ++ q ∷ []) ≡ firsts ps ++ q ∷ []
firsts_new [] q new = refl
firsts_new (p ∷ ps) q new =
    firsts_cons p (ps ++ q ∷ [])
    ∙ ap (λ (xs : List Pair). p ∷ others p xs) (firsts_new ps q (λ m. new (inr m)))
    ∙ ap (λ (xs : List Pair). p ∷ xs) (others_append p (firsts ps) (q ∷ []) ∙ ap (λ (xs : List Pair). others p (firsts ps) ++ xs) (others_with p q (λ is. new (inl is))))
    ∙ ap (λ (xs : List Pair). xs ++ q ∷ []) (sym (firsts_cons p ps))

-- a pair that is already in the list is not added again, if it is p
left_out : (p q : Pair) (ps : List Pair) → p ≡ q → others p (firsts ps ++ q ∷ []) ≡ others p (firsts ps)
left_out p q ps is = others_append p (firsts ps) (q ∷ []) ∙ ap (λ (xs : List Pair). others p (firsts ps) ++ xs) (others_without p q is) ∙ append-nil (others p (firsts ps))

pub firsts_again : (ps : List Pair) (q : Pair) → Among ps q → firsts (ps ++ q ∷ []) ≡ firsts ps
firsts_again [] q m = elim m [ ]
firsts_again (p ∷ ps) q (inr m) = firsts_cons p (ps ++ q ∷ []) ∙ ap (λ (xs : List Pair). p ∷ others p xs) (firsts_again ps q m) ∙ sym (firsts_cons p ps)
firsts_again (p ∷ ps) q (inl is) =
    elim (among_or_not ps q) [
      | inl m ↦ firsts_cons p (ps ++ q ∷ []) ∙ ap (λ (xs : List Pair). p ∷ others p xs) (firsts_again ps q m) ∙ sym (firsts_cons p ps)
      | inr new ↦ firsts_cons p (ps ++ q ∷ []) ∙ ap (λ (xs : List Pair). p ∷ others p xs) (firsts_new ps q new) ∙ ap (λ (xs : List Pair). p ∷ xs) (left_out p q ps is) ∙ sym (firsts_cons p ps)
    ]

-- ---- more pairs at the end

snoc_append : (ps : List Pair) (q : Pair) (qs : List Pair) → (ps ++ q ∷ []) ++ qs ≡ ps ++ q ∷ qs
snoc_append ps q qs = append_assoc ps (q ∷ []) qs

among_front : (ps qs : List Pair) (q : Pair) → Among ps q → Among (ps ++ qs) q
among_front [] qs q m = elim m [ ]
among_front (p ∷ ps) qs q (inl is) = inl is
among_front (p ∷ ps) qs q (inr m) = inr (among_front ps qs q m)

-- pairs that are already in the list change nothing
pub firsts_of_known : (ps qs : List Pair) → ((q : Pair) → Among qs q → Among ps q) → firsts (ps ++ qs) ≡ firsts ps
firsts_of_known ps [] known = ap firsts (append-nil ps)
firsts_of_known ps (q ∷ qs) known =
    ap firsts (sym (snoc_append ps q qs))
    ∙ firsts_of_known (ps ++ q ∷ []) qs (λ r m. among_front ps (q ∷ []) r (known r (inr m)))
    ∙ firsts_again ps q (known q (inl refl))

-- more pairs at the end leave the front of the list unchanged
pub firsts_begin : (ps qs : List Pair) → (rest : List Pair) × (firsts (ps ++ qs) ≡ firsts ps ++ rest)
firsts_begin ps [] = ([], ap firsts (append-nil ps) ∙ sym (append-nil (firsts ps)))
firsts_begin ps (q ∷ qs) =
    let behind = firsts_begin (ps ++ q ∷ []) qs in
    let same : firsts (ps ++ q ∷ qs) ≡ firsts (ps ++ q ∷ []) ++ behind.0 = ap firsts (sym (snoc_append ps q qs)) ∙ behind.1 in
    elim (among_or_not ps q) [
      | inl m ↦ (behind.0, same ∙ ap (λ (xs : List Pair). xs ++ behind.0) (firsts_again ps q m))
      | inr new ↦ (q ∷ behind.0, same ∙ ap (λ (xs : List Pair). xs ++ behind.0) (firsts_new ps q new) ∙ snoc_append (firsts ps) q behind.0)
    ]
