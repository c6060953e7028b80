-- The comparison of two types with its sides exchanged.
use Rattle.std.proofs.Common.{◌≡◌, ℕ, suc, List, [], ◌∷◌, map, refl, sym, ap, subst, ◌∙◌, inl, inr, Bool, true, Result, Ok, Err, Contains}
use Rattle.std.specs.Result.{result_ok}
use Rattle.std.proofs.lemmas.List.{map-append}
use Rattle.std.proofs.lemmas.Option.{none-some}
use Rattle.btf_model.specs.Record.{Kind, Record}
use Rattle.btf_model.specs.Refusal.{Refusal}
use Rattle.btf_model.specs.Table.{Table}
use Rattle.btf_model.specs.Walk.{walk_limit}
use Rattle.btf_model.specs.Fields.{Pair, HaveKinds}
use Rattle.btf_model.specs.Compat.{Position, Decided, On, Pending, PositionFound, Finds, AreKnown, Plain, Walked, ComparedInOrder}
use Rattle.btf_model.specs.Laws.{exchanged}
use Rattle.btf_model.proofs.Known.{Among, among_from_contains, contains_from_among}
use Rattle.btf_model.proofs.OnePlain.{one_plain}
use Rattle.btf_model.proofs.PlainAnswers.{plain_answers}
use Rattle.btf_model.proofs.Mirrors.{turned, IsFinePosition, IsGiven, position_turned}

-- ---- open pairs

among_exchanged : (above : List Pair) (p : Pair) → Among (map exchanged above) (exchanged p) → Among above p
among_exchanged [] p m = m
among_exchanged (q ∷ above) p (inl is) = inl (ap exchanged is)
among_exchanged (q ∷ above) p (inr m) = inr (among_exchanged above p m)

new_exchanged : (above : List Pair) (p : Pair) → ¬ (Contains above p) → ¬ (Contains (map exchanged above) (exchanged p))
new_exchanged above p new h = new (contains_from_among above p (among_exchanged above p (among_from_contains (map exchanged above) (exchanged p) h)))

module _ (local target : Table) where
  -- ---- positions

  position_found : (id other : ℕ) (k q : Kind) (r s : Record) (found : Position) → IsFinePosition found → PositionFound id k q r s found → PositionFound other q k s r (turned found)
  position_found id other k q r s found fine (inl p) = inl ((λ e. p.0 (sym e)), ap turned p.1)
  position_found id other k q r s found fine (inr p) =
      inr (sym p.0, ap turned p.1 ∙ sym (position_turned id other r s k q p.0 (subst (λ (x : Position). IsFinePosition x) p.1 fine)))

  finds_turned : (at : Pair) (found : Position) → IsFinePosition found → Finds local target at found → Finds target local (exchanged at) (turned found)
  finds_turned at found fine (inl p) = absurd (subst (λ (x : Position). IsFinePosition x) p.2 fine)
  finds_turned at found fine (inr p) = inr (exchanged p.0, p.2, p.1, p.4, p.3, (p.5.1, p.5.0), p.7, p.6, position_found p.0.local p.0.target p.1 p.2 p.3 p.4 found fine p.8)

  known_exchanged : (p : Pair) (k q : Kind) → AreKnown local target p k q → AreKnown target local (exchanged p) q k
  known_exchanged p k q known = (known.1, known.0, known.3, known.2)

  -- ---- comparisons

  mutual
    plain_turned : (above : List Pair) (p : Pair) (answer : Result Bool Refusal) (starts : List Pair) → Plain local target above p answer starts → IsGiven answer → Plain target local (map exchanged above) (exchanged p) answer (map exchanged starts)
    plain_turned above p answer starts (Plain.again _ _ is_open) given = absurd given
    plain_turned above p answer starts (Plain.no_local _ _ new here) given = absurd given
    plain_turned above p answer starts (Plain.no_target _ _ r new here there) given = absurd given
    plain_turned above p answer starts (Plain.kinds_differ _ _ k q new known differ) given =
        Plain.kinds_differ (map exchanged above) (exchanged p) q k (new_exchanged above p new) (known_exchanged p k q known) (λ e. differ (sym e))
    plain_turned above p answer starts (Plain.walked _ _ k q _ behind new known same walk) given =
        Plain.walked (map exchanged above) (exchanged p) q k answer (map exchanged behind) (new_exchanged above p new) (known_exchanged p k q known) (sym same) (walked_turned (p ∷ above) walk_limit p answer behind walk given)

    walked_turned : (above : List Pair) (n : ℕ) (at : Pair) (answer : Result Bool Refusal) (starts : List Pair) → Walked local target above n at answer starts → IsGiven answer
        → Walked target local (map exchanged above) n (exchanged at) answer (map exchanged starts)
    walked_turned above n at answer starts (Walked.too_deep _ _) given = absurd given
    walked_turned above n at answer starts (Walked.decided _ m _ _ found) given = Walked.decided (map exchanged above) m (exchanged at) answer (finds_turned at (Decided answer) given found)
    walked_turned above n at answer starts (Walked.on _ m _ to _ _ found behind) given =
        Walked.on (map exchanged above) m (exchanged at) (exchanged to) answer (map exchanged starts) (finds_turned at (On to) tt found) (walked_turned above m to answer starts behind given)
    walked_turned above n at answer starts (Walked.compared _ m _ to pending _ first behind found compares_all goes) given =
        subst (λ (x : List Pair). Walked target local (map exchanged above) (suc m) (exchanged at) answer x) (sym (map-append exchanged first behind))
        (Walked.compared (map exchanged above) m (exchanged at) (exchanged to) (map exchanged pending) answer (map exchanged first) (map exchanged behind) (finds_turned at (Pending pending to) tt found)
        (compared_turned above pending (Ok true) first compares_all tt) (walked_turned above m to answer behind goes given))
    walked_turned above n at answer starts (Walked.not_compatible _ m _ to pending _ _ found compares_all not_true) given =
        Walked.not_compatible (map exchanged above) m (exchanged at) (exchanged to) (map exchanged pending) answer (map exchanged starts) (finds_turned at (Pending pending to) tt found) (compared_turned above pending answer starts compares_all given) not_true

    compared_turned : (above pending : List Pair) (answer : Result Bool Refusal) (starts : List Pair) → ComparedInOrder local target above pending answer starts → IsGiven answer → ComparedInOrder target local (map exchanged above) (map exchanged pending) answer (map exchanged starts)
    compared_turned above pending answer starts (ComparedInOrder.all _) given = ComparedInOrder.all (map exchanged above)
    compared_turned above pending answer starts (ComparedInOrder.unresolved _ at rest refusal resolved) given = absurd given
    compared_turned above pending answer starts (ComparedInOrder.other _ at p rest _ _ resolved plain not_true) given =
        ComparedInOrder.other (map exchanged above) (exchanged at) (exchanged p) (map exchanged rest) answer (map exchanged starts) (resolved.1, resolved.0) (plain_turned above p answer starts plain given) not_true
    compared_turned above pending answer starts (ComparedInOrder.next _ at p rest _ first behind resolved plain compares_all) given =
        subst (λ (x : List Pair). ComparedInOrder target local (map exchanged above) (exchanged at ∷ map exchanged rest) answer x) (sym (map-append exchanged first behind))
        (ComparedInOrder.next (map exchanged above) (exchanged at) (exchanged p) (map exchanged rest) answer (map exchanged first) (map exchanged behind) (resolved.1, resolved.0)
        (plain_turned above p (Ok true) first plain tt) (compared_turned above rest answer behind compares_all given))

  pub plain_mirrored : (above : List Pair) (p : Pair) (b : Bool) (starts : List Pair) → Plain local target above p (Ok b) starts → Plain target local (map exchanged above) (exchanged p) (Ok b) (map exchanged starts)
  plain_mirrored above p b starts h = plain_turned above p (Ok b) starts h tt

-- ---- refusals

there_and_back : (ps : List Pair) → map exchanged (map exchanged ps) ≡ ps
there_and_back [] = refl
there_and_back (p ∷ ps) = ap (λ (x : List Pair). p ∷ x) (there_and_back ps)

module _ (local target : Table) where
  refused_by : (above : List Pair) (p : Pair) (refusal : Refusal) (starts : List Pair) (answer : Result Bool Refusal) (others : List Pair) → Plain local target above p (Err refusal) starts
      → Plain target local (map exchanged above) (exchanged p) answer others → (f : Refusal) × (more : List Pair) × Plain target local (map exchanged above) (exchanged p) (Err f) more
  refused_by above p refusal starts (Ok b) others h g =
      let forth = subst (λ (x : List Pair). Plain local target x p (Ok b) (map exchanged others)) (there_and_back above) (plain_mirrored target local (map exchanged above) (exchanged p) b others g) in
      absurd (none-some b (ap result_ok (one_plain local target above p (Err refusal) (Ok b) starts (map exchanged others) h forth).0))
  refused_by above p refusal starts (Err f) others h g = (f, others, g)

  -- a refused comparison is also refused with its sides exchanged
  pub plain_refused : HaveKinds local → HaveKinds target → (above : List Pair) (p : Pair) (refusal : Refusal) (starts : List Pair) → Plain local target above p (Err refusal) starts
      → (f : Refusal) × (more : List Pair) × Plain target local (map exchanged above) (exchanged p) (Err f) more
  plain_refused ls ts above p refusal starts h =
      let there = plain_answers target local ts ls (map exchanged above) (exchanged p) in
      refused_by above p refusal starts there.0 there.1 h there.2
