-- The pairs that a comparison starts: their ids are known, and without repeats their number is at most the number of
-- pairs of known ids.
use Rattle.std.proofs.Common.{◌≡◌, ℕ, ◌*◌, ◌≤◌, Bool, true, false, List, [], ◌∷◌, length, refl, sym, ap, subst, ◌∙◌, arith, inl, inr, Result, Ok}
use Rattle.std.specs.Prelude.{not, cond, All}
use Rattle.std.specs.List.{filter, AllByRecursion, IsDistinct}
use Rattle.std.proofs.lemmas.Bool.{false≢true}
use Rattle.std.proofs.lemmas.List.Elements.{All-nil, All-cons}
use Rattle.std.proofs.lemmas.Map.Keys.{IsDistinct-cons, IsDistinct-head, IsDistinct-tail}
use Rattle.std.proofs.lemmas.Option.{slice_get_within}
use Rattle.btf_model.specs.Refusal.{Refusal}
use Rattle.btf_model.specs.Table.{Table}
use Rattle.btf_model.specs.Fields.{Pair}
use Rattle.btf_model.specs.Compat.{Plain, Walked, ComparedInOrder, AreKnown, pair_eq, firsts}
use Rattle.btf_model.specs.Laws.{AreIdsOfPair}
use Rattle.btf_model.proofs.Known.{Among, HasIds, without, known_pairs, known_pairs_among, length-known_pairs}
use Rattle.btf_model.proofs.Firsts.{eq_itself}
use Rattle.btf_model.proofs.RunStates.{among_append, among_of_firsts}

-- ---- their ids are known

module _ (local target : Table) where
  ids_known : (p q : Pair) (k l : _) → AreKnown local target p k l → p ≡ q → HasIds local target q
  ids_known p q k l known is = subst (HasIds local target) is (known.0, known.1, known.2.0, known.3.0)

  mutual
    pub plain_known : (above : List Pair) (p : Pair) (a : Result Bool Refusal) (starts : List Pair) → Plain local target above p a starts → (q : Pair) → Among starts q → HasIds local target q
    plain_known above p a starts (Plain.again _ _ is_open) q m = elim m [ ]
    plain_known above p a starts (Plain.no_local _ _ new here) q m = elim m [ ]
    plain_known above p a starts (Plain.no_target _ _ r new here there) q m = elim m [ ]
    plain_known above p a starts (Plain.kinds_differ _ _ k l new known differ) q m = elim m [ inl is ↦ ids_known p q k l known is | inr none ↦ elim none [ ] ]
    plain_known above p a starts (Plain.walked _ _ k l answer rest new known same behind) q (inl is) = ids_known p q k l known is
    plain_known above p a starts (Plain.walked _ _ k l answer rest new known same behind) q (inr m) = walked_known (p ∷ above) _ p answer rest behind q m

    walked_known : (above : List Pair) (n : ℕ) (at : Pair) (a : Result Bool Refusal) (starts : List Pair) → Walked local target above n at a starts → (q : Pair) → Among starts q → HasIds local target q
    walked_known above n at a starts (Walked.too_deep _ _) q m = elim m [ ]
    walked_known above n at a starts (Walked.decided _ k _ answer found) q m = elim m [ ]
    walked_known above n at a starts (Walked.on _ k _ to answer rest found behind) q m = walked_known above k to answer rest behind q m
    walked_known above n at a starts (Walked.compared _ k _ to pending answer first rest found compares_all goes) q m =
        elim (among_append first rest q m) [ inl h ↦ compared_known above pending (Ok true) first compares_all q h | inr h ↦ walked_known above k to answer rest goes q h ]
    walked_known above n at a starts (Walked.not_compatible _ k _ to pending answer rest found compares_all not_true) q m = compared_known above pending answer rest compares_all q m

    compared_known : (above : List Pair) (pending : List Pair) (a : Result Bool Refusal) (starts : List Pair) → ComparedInOrder local target above pending a starts → (q : Pair) → Among starts q → HasIds local target q
    compared_known above pending a starts (ComparedInOrder.all _) q m = elim m [ ]
    compared_known above pending a starts (ComparedInOrder.unresolved _ at more refusal refused) q m = elim m [ ]
    compared_known above pending a starts (ComparedInOrder.other _ at p more answer rest resolved plain not_true) q m = plain_known above p answer rest plain q m
    compared_known above pending a starts (ComparedInOrder.next _ at p more answer first rest resolved plain compares_all) q m =
        elim (among_append first rest q m) [ inl h ↦ plain_known above p (Ok true) first plain q h | inr h ↦ compared_known above more answer rest compares_all q h ]

-- ---- without repeats

kept_apart : (p q : Pair) (rest : List Pair) (b : Bool) → pair_eq p q ≡ b → AllByRecursion (λ r. pair_eq p r ≡ false) rest → AllByRecursion (λ r. pair_eq p r ≡ false) (cond (not b) (q ∷ rest) rest)
kept_apart p q rest true is all = all
kept_apart p q rest false is all = (is, all)

apart_in_filter : (p : Pair) (qs : List Pair) → AllByRecursion (λ q. pair_eq p q ≡ false) (filter (λ q. not (pair_eq p q)) qs)
apart_in_filter p [] = tt
apart_in_filter p (q ∷ qs) = kept_apart p q (filter (λ r. not (pair_eq p r)) qs) (pair_eq p q) refl (apart_in_filter p qs)

all_kept : (P : Pair → Type 0) (b : Bool) (q : Pair) (rest : List Pair) → P q → AllByRecursion P rest → AllByRecursion P (cond b (q ∷ rest) rest)
all_kept P true q rest here all = (here, all)
all_kept P false q rest here all = all

all_filter : (P : Pair → Type 0) (test : Pair → Bool) (qs : List Pair) → AllByRecursion P qs → AllByRecursion P (filter test qs)
all_filter P test [] all = tt
all_filter P test (q ∷ qs) all = all_kept P (test q) q (filter test qs) all.0 (all_filter P test qs all.1)

distinct_kept : (b : Bool) (q : Pair) (rest : List Pair) → AllByRecursion (λ r. pair_eq q r ≡ false) rest → IsDistinct pair_eq rest → IsDistinct pair_eq (cond b (q ∷ rest) rest)
distinct_kept true q rest apart distinct = IsDistinct-cons pair_eq q rest apart distinct
distinct_kept false q rest apart distinct = distinct

distinct_filter : (test : Pair → Bool) (qs : List Pair) → IsDistinct pair_eq qs → IsDistinct pair_eq (filter test qs)
distinct_filter test [] distinct = distinct
distinct_filter test (q ∷ qs) distinct =
    distinct_kept (test q) q (filter test qs) (all_filter (λ r. pair_eq q r ≡ false) test qs (IsDistinct-head pair_eq q qs distinct)) (distinct_filter test qs (IsDistinct-tail pair_eq q qs distinct))

pub firsts_distinct : (ps : List Pair) → IsDistinct pair_eq (firsts ps)
unfolding IsDistinct
firsts_distinct [] = tt
firsts_distinct (p ∷ ps) =
    let others = filter (λ q. not (pair_eq p q)) (firsts ps) in
    IsDistinct-cons pair_eq p others (apart_in_filter p (firsts ps)) (distinct_filter (λ q. not (pair_eq p q)) (firsts ps) (firsts_distinct ps))

-- ---- how many they are

not_among : (ps : List Pair) (p : Pair) → AllByRecursion (λ q. pair_eq p q ≡ false) ps → Among ps p → ⊥
not_among [] p apart m = m
not_among (q ∷ ps) p apart (inl is) = false≢true (sym apart.0 ∙ ap (pair_eq p) is ∙ eq_itself p)
not_among (q ∷ ps) p apart (inr m) = not_among ps p apart.1 m

-- distinct pairs that are all in another list are at most as many as the pairs of that list
distinct_fit : (ps qs : List Pair) → IsDistinct pair_eq ps → ((q : Pair) → Among ps q → Among qs q) → length ps ≤ length qs
distinct_fit [] qs distinct inside = omega arith
distinct_fit (p ∷ ps) qs distinct inside =
    let fewer = without qs p (inside p (inl refl)) in
    let others : (q : Pair) → Among ps q → Among fewer.rest q =
    λ q m. elim (fewer.others q (inside q (inr m))) [ inl is ↦ absurd (not_among ps p (IsDistinct-head pair_eq p ps distinct) (subst (Among ps) (sym is) m)) | inr g ↦ g ] in
    omega (arith, distinct_fit ps fewer.rest (IsDistinct-tail pair_eq p ps distinct) others, fewer.shorter)

pub firsts_few : (local target : Table) (starts : List Pair) → ((q : Pair) → Among starts q → HasIds local target q) → length (firsts starts) ≤ length local.records * length target.records
firsts_few local target starts known =
    let inside : (q : Pair) → Among (firsts starts) q → Among (known_pairs local target) q = λ q m. known_pairs_among local target q (known q (among_of_firsts starts q m)) in
    omega (arith, distinct_fit (firsts starts) (known_pairs local target) (firsts_distinct starts) inside, length-known_pairs local target)

-- ---- each of them

pub all_known : (local target : Table) (ps : List Pair) → ((q : Pair) → Among ps q → HasIds local target q) → All (AreIdsOfPair local target) ps
all_known local target [] known = All-nil (AreIdsOfPair local target)
all_known local target (p ∷ ps) known =
    let here = known p (inl refl) in
    All-cons (AreIdsOfPair local target) p ps (slice_get_within local.records p.local here.0 here.2, slice_get_within target.records p.target here.1 here.3) (all_known local target ps (λ q m. known q (inr m)))
