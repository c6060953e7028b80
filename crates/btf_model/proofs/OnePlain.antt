-- A comparison has one answer and one list of starts.
use Rattle.std.proofs.Common.{◌≡◌, ℕ, List, ◌∷◌, ◌++◌, refl, sym, ap, ◌∙◌, inl, inr, Bool, true, Some, None, Result, Ok, Err, slice_get}
use Rattle.btf_model.specs.Refusal.{Refusal}
use Rattle.btf_model.specs.Table.{Table}
use Rattle.btf_model.specs.Walk.{walk_limit}
use Rattle.btf_model.specs.Fields.{Pair}
use Rattle.btf_model.specs.Compat.{Decided, On, Pending, Plain, Walked, ComparedInOrder}
use Rattle.btf_model.proofs.PlainSteps.{Are, walked_follows, compared_none, paid_follows, is_again, is_looked_up, is_started}

-- two values that equal a third are equal
flipped : (a b : Result Bool Refusal) (s t : List Pair) → Are b t a s → Are a s b t
flipped a b s t h = (sym h.0, sym h.1)

-- starts after starts
joined : (first other behind more t : List Pair) → first ≡ other → behind ≡ more → t ≡ other ++ more → first ++ behind ≡ t
joined first other behind more t p q is = ap (λ (x : List Pair). x ++ behind) p ∙ ap (λ (x : List Pair). other ++ x) q ∙ sym is

module _ (local target : Table) where
  mutual
    same_plain : (above : List Pair) (p : Pair) (a : Result Bool Refusal) (s : List Pair) → Plain local target above p a s → (b : Result Bool Refusal) (t : List Pair) → Plain local target above p b t → Are a s b t
    same_plain above p a s (Plain.again _ _ is_open) b t h = flipped a b s t (is_again local target above p b t is_open h)
    same_plain above p a s (Plain.no_local _ _ new here) b t h = flipped a b s t (is_looked_up local target above p None (slice_get target.records p.target) b t new here refl h)
    same_plain above p a s (Plain.no_target _ _ r new here there) b t h = flipped a b s t (is_looked_up local target above p (Some r) None b t new here there h)
    same_plain above p a s (Plain.kinds_differ _ _ k q new known differ) b t h =
        elim (is_started local target above p k q b t new known h) [
          | inl g ↦ flipped a b s t g.1
          | inr g ↦ absurd (differ g.0)
        ]
    same_plain above p a s (Plain.walked _ _ k q answer starts new known same behind) b t h =
        elim (is_started local target above p k q b t new known h) [
          | inl g ↦ absurd (g.0 same)
          | inr g ↦ let is = same_walked (p ∷ above) walk_limit p answer starts behind b g.1 g.2 in
              (is.0, ap (λ (x : List Pair). p ∷ x) is.1 ∙ sym g.3)
        ]

    same_walked : (above : List Pair) (n : ℕ) (at : Pair) (a : Result Bool Refusal) (s : List Pair) → Walked local target above n at a s → (b : Result Bool Refusal) (t : List Pair) → Walked local target above n at b t → Are a s b t
    same_walked above n at a s (Walked.too_deep _ _) b t (Walked.too_deep _ _) = (refl, refl)
    same_walked above n at a s (Walked.decided _ m _ answer found) b t h = flipped a b s t (walked_follows local target above m at (Decided answer) b t found h)
    same_walked above n at a s (Walked.on _ m _ to answer starts found behind) b t h =
        same_walked above m to answer starts behind b t (walked_follows local target above m at (On to) b t found h)
    same_walked above n at a s (Walked.compared _ m _ to pending answer first behind found compares_all goes) b t h =
        elim (walked_follows local target above m at (Pending pending to) b t found h) [
          | inl g ↦ let firsts = same_compared above pending (Ok true) first compares_all (Ok true) g.0 g.2 in
              let others = same_walked above m to answer behind goes b g.1 g.3 in
              (others.0, joined first g.0 behind g.1 t firsts.1 others.1 g.4)
          | inr g ↦ absurd (g.1 (sym (same_compared above pending (Ok true) first compares_all b t g.0).0))
        ]
    same_walked above n at a s (Walked.not_compatible _ m _ to pending answer starts found compares_all not_true) b t h =
        elim (walked_follows local target above m at (Pending pending to) b t found h) [
          | inl g ↦ absurd (not_true (same_compared above pending answer starts compares_all (Ok true) g.0 g.2).0)
          | inr g ↦ same_compared above pending answer starts compares_all b t g.0
        ]

    same_compared : (above pending : List Pair) (a : Result Bool Refusal) (s : List Pair) → ComparedInOrder local target above pending a s → (b : Result Bool Refusal) (t : List Pair) → ComparedInOrder local target above pending b t → Are a s b t
    same_compared above pending a s (ComparedInOrder.all _) b t h = flipped a b s t (compared_none local target above b t h)
    same_compared above pending a s (ComparedInOrder.unresolved _ at rest refusal resolved) b t h = flipped a b s t (paid_follows local target above at rest (Err refusal) b t resolved h)
    same_compared above pending a s (ComparedInOrder.other _ at p rest answer starts resolved plain not_true) b t h =
        elim (paid_follows local target above at rest (Ok p) b t resolved h) [
          | inl g ↦ absurd (not_true (same_plain above p answer starts plain (Ok true) g.0 g.2).0)
          | inr g ↦ same_plain above p answer starts plain b t g.0
        ]
    same_compared above pending a s (ComparedInOrder.next _ at p rest answer first behind resolved plain compares_all) b t h =
        elim (paid_follows local target above at rest (Ok p) b t resolved h) [
          | inl g ↦ let firsts = same_plain above p (Ok true) first plain (Ok true) g.0 g.2 in
              let others = same_compared above rest answer behind compares_all b g.1 g.3 in
              (others.0, joined first g.0 behind g.1 t firsts.1 others.1 g.4)
          | inr g ↦ absurd (g.1 (sym (same_plain above p (Ok true) first plain b t g.0).0))
        ]

  -- an answer is the answer
  pub one_plain : (above : List Pair) (p : Pair) (a b : Result Bool Refusal) (s t : List Pair) → Plain local target above p a s → Plain local target above p b t → Are a s b t
  one_plain above p a b s t h g = same_plain above p a s h b t g

  pub one_walked : (above : List Pair) (n : ℕ) (at : Pair) (a b : Result Bool Refusal) (s t : List Pair) → Walked local target above n at a s → Walked local target above n at b t → Are a s b t
  one_walked above n at a b s t h g = same_walked above n at a s h b t g

  pub one_compared : (above pending : List Pair) (a b : Result Bool Refusal) (s t : List Pair) → ComparedInOrder local target above pending a s → ComparedInOrder local target above pending b t → Are a s b t
  one_compared above pending a b s t h g = same_compared above pending a s h b t g
