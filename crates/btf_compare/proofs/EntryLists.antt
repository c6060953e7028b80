-- Maps from pairs of ids: an array that is searched, and a map of the entries that do not fit into it.
use Rattle.std.proofs.Common.{◌≡◌, ℕ, zero, suc, ◌<◌, List, [], ◌∷◌, ◌++◌, length, take, refl, sym, ap, subst, ◌∙◌, Bool, true, false, Some, None, Option, arith, slice_get, slice_set, get_or, inl, inr}
use Rattle.std.specs.Prelude.{◌==◌, ◌&&◌, cond}
use Rattle.std.specs.Option.{option_or}
use Rattle.std.specs.Map.{lookup}
use Rattle.std.specs.Cmp.{both_tied, unsigned_ties}
use Rattle.std.specs.Ordering.{nat_cmp}
use Rattle.std.proofs.lemmas.Bool.{cases_Bool, false≢true}
use Rattle.std.proofs.lemmas.Option.{none-some, same_Some}
use Rattle.btf_model.proofs.Firsts.{eq_itself, eq_same, eq_other}
use Rattle.btf_compare.specs.Entries.{is_ids, IsNoPair, IsPlaceOf}
use Rattle.btf_compare.specs.Pairs.{pair_of, ids_of}

-- ---- pairs of ids

-- the order compares two pairs of ids as equal exactly if `==` does
pub ids_eq : (x y : ℕ × ℕ) → (x.0 == y.0 && x.1 == y.1) ≡ is_ids x y
ids_eq x y = both_tied (x.0 == y.0) (x.1 == y.1) (nat_cmp x.0 y.0) (nat_cmp x.1 y.1) (unsigned_ties x.0 y.0) (unsigned_ties x.1 y.1)

pub is_itself : (x : ℕ × ℕ) → is_ids x x ≡ true
is_itself x = sym (ids_eq x x) ∙ eq_itself (pair_of x)

pub is_same : (x y : ℕ × ℕ) → is_ids x y ≡ true → x ≡ y
is_same x y is = ap ids_of (eq_same (pair_of x) (pair_of y) (ids_eq x y ∙ is))

is_other : (x y : ℕ × ℕ) → (x ≡ y → ⊥) → is_ids x y ≡ false
is_other x y other = sym (ids_eq x y) ∙ eq_other (pair_of x) (pair_of y) (λ is. other (ap ids_of is))

apart : (x y : ℕ × ℕ) → is_ids x y ≡ false → x ≡ y → ⊥
apart x y differs is = false≢true (sym differs ∙ subst (λ (z : ℕ × ℕ). is_ids x z ≡ true) is (is_itself x))

-- the other way round
is_turned : (x y : ℕ × ℕ) → is_ids x y ≡ is_ids y x
is_turned x y =
    elim (cases_Bool (is_ids x y)) [
      | inl is ↦ is ∙ sym (subst (λ (z : ℕ × ℕ). is_ids z x ≡ true) (is_same x y is) (is_itself x))
      | inr differs ↦ differs ∙ sym (is_other y x (λ same. apart x y differs (sym same)))
    ]

-- ---- an array of entries

cond_none : {V : Type 0} (b : Bool) (v : V) (o : Option V) → cond b (Some v) o ≡ None → (b ≡ false) × (o ≡ None)
cond_none true v o is = absurd (none-some v (sym is))
cond_none false v o is = (refl, is)

or_none : {V : Type 0} (o more : Option V) → option_or o more ≡ None → (o ≡ None) × (more ≡ None)
or_none None more is = (refl, is)
or_none (Some v) more is = absurd (none-some v (sym is))

module _ {V : Type 0} (ids : ℕ × ℕ) where
  -- an entry that is not the pair's
  pub none_so_far : (es : List ((ℕ × ℕ) × V)) (i : ℕ) (e : (ℕ × ℕ) × V) → slice_get es i ≡ Some e → IsNoPair ids (take i es) → is_ids ids e.0 ≡ false → IsNoPair ids (take (suc i) es)
  none_so_far [] i e at none differs = absurd (none-some e at)
  none_so_far (a ∷ es) zero e at none differs = ap (λ (x : (ℕ × ℕ) × V). cond (is_ids ids x.0) (Some a.1) None) (same_Some a e at) ∙ ap (λ (b : Bool). cond b (Some a.1) None) differs
  none_so_far (a ∷ es) (suc i) e at none differs =
      let parts = cond_none (is_ids ids a.0) a.1 (lookup (is_ids ids) (take i es)) none in
      ap (λ (b : Bool). cond b (Some a.1) (lookup (is_ids ids) (take (suc i) es))) parts.0 ∙ none_so_far es i e at parts.1 differs

  -- the first entry of the pair
  pub place_here : (es : List ((ℕ × ℕ) × V)) (i : ℕ) (e : (ℕ × ℕ) × V) → slice_get es i ≡ Some e → IsNoPair ids (take i es) → is_ids ids e.0 ≡ true → IsPlaceOf ids es i
  place_here [] i e at none is = absurd (none-some e at)
  place_here (a ∷ es) zero e at none is = ap (λ (x : (ℕ × ℕ) × V). is_ids ids x.0) (same_Some a e at) ∙ is
  place_here (a ∷ es) (suc i) e at none is =
      let parts = cond_none (is_ids ids a.0) a.1 (lookup (is_ids ids) (take i es)) none in
      (parts.0, place_here es i e at parts.1 is)

  pub place_within : (es : List ((ℕ × ℕ) × V)) (i : ℕ) → IsPlaceOf ids es i → i < length es
  place_within [] i place = absurd place
  place_within (a ∷ es) zero place = omega arith
  place_within (a ∷ es) (suc i) place = omega (arith, place_within es i place.1)

  -- the value that is looked up is at this index
  pub place_found : (es : List ((ℕ × ℕ) × V)) (i : ℕ) (d : (ℕ × ℕ) × V) → IsPlaceOf ids es i → lookup (is_ids ids) es ≡ Some (get_or es i d).1
  place_found [] i d place = absurd place
  place_found (a ∷ es) zero d place = ap (λ (b : Bool). cond b (Some a.1) (lookup (is_ids ids) es)) place
  place_found (a ∷ es) (suc i) d place = ap (λ (b : Bool). cond b (Some a.1) (lookup (is_ids ids) es)) place.0 ∙ place_found es i d place.1

  cond_twice : (b : Bool) (v w : V) (o : Option V) → cond b (Some v) o ≡ cond b (Some v) (cond b (Some w) o)
  cond_twice true v w o = refl
  cond_twice false v w o = refl

  cond_apart : (p q : Bool) (v w : V) (o : Option V) → (p ≡ true → q ≡ true → ⊥) → cond q (Some w) (cond p (Some v) o) ≡ cond p (Some v) (cond q (Some w) o)
  cond_apart true true v w o never = absurd (never refl refl)
  cond_apart true false v w o never = refl
  cond_apart false true v w o never = refl
  cond_apart false false v w o never = refl

  -- a new value there
  pub place_set : (es : List ((ℕ × ℕ) × V)) (i : ℕ) (v : V) (other : ℕ × ℕ) → IsPlaceOf ids es i → lookup (is_ids other) (slice_set es i (ids, v)) ≡ cond (is_ids ids other) (Some v) (lookup (is_ids other) es)
  place_set [] i v other place = absurd place
  place_set (a ∷ es) zero v other place =
      ap (λ (b : Bool). cond b (Some v) (lookup (is_ids other) es)) (is_turned other ids) ∙ cond_twice (is_ids ids other) v a.1 (lookup (is_ids other) es)
      ∙ ap (λ (b : Bool). cond (is_ids ids other) (Some v) (cond b (Some a.1) (lookup (is_ids other) es))) (is_turned ids other ∙ ap (is_ids other) (is_same ids a.0 place))
  place_set (a ∷ es) (suc i) v other place =
      ap (λ (o : Option V). cond (is_ids other a.0) (Some a.1) o) (place_set es i v other place.1)
      ∙ cond_apart (is_ids ids other) (is_ids other a.0) v a.1 (lookup (is_ids other) es) (λ is at. apart ids a.0 place.0 (is_same ids other is ∙ is_same other a.0 at))

  -- one entry more
  push_same : (es : List ((ℕ × ℕ) × V)) (v : V) → IsNoPair ids es → lookup (is_ids ids) (es ++ (ids, v) ∷ []) ≡ Some v
  push_same [] v none = ap (λ (b : Bool). cond b (Some v) None) (is_itself ids)
  push_same (a ∷ es) v none =
      let parts = cond_none (is_ids ids a.0) a.1 (lookup (is_ids ids) es) none in
      ap (λ (b : Bool). cond b (Some a.1) (lookup (is_ids ids) (es ++ (ids, v) ∷ []))) parts.0 ∙ push_same es v parts.1

  push_other : (es : List ((ℕ × ℕ) × V)) (v : V) (other : ℕ × ℕ) → is_ids ids other ≡ false → lookup (is_ids other) (es ++ (ids, v) ∷ []) ≡ lookup (is_ids other) es
  push_other [] v other differs = ap (λ (b : Bool). cond b (Some v) None) (is_turned other ids ∙ differs)
  push_other (a ∷ es) v other differs = ap (λ (o : Option V). cond (is_ids other a.0) (Some a.1) o) (push_other es v other differs)

  pub list_push : (es : List ((ℕ × ℕ) × V)) (v : V) → IsNoPair ids es → (other : ℕ × ℕ) → lookup (is_ids other) (es ++ (ids, v) ∷ []) ≡ cond (is_ids ids other) (Some v) (lookup (is_ids other) es)
  list_push es v none other =
      elim (cases_Bool (is_ids ids other)) [
        | inl is ↦
            subst (λ (x : ℕ × ℕ). lookup (is_ids x) (es ++ (ids, v) ∷ []) ≡ cond (is_ids ids x) (Some v) (lookup (is_ids x) es)) (is_same ids other is)
            (push_same es v none ∙ ap (λ (b : Bool). cond b (Some v) (lookup (is_ids ids) es)) (sym (is_itself ids)))
        | inr differs ↦ push_other es v other differs ∙ ap (λ (b : Bool). cond b (Some v) (lookup (is_ids other) es)) (sym differs)
      ]

  -- ---- the array, and the map after it

  pub set_then_more : (p : Bool) (v : V) (o more : Option V) → option_or (cond p (Some v) o) more ≡ cond p (Some v) (option_or o more)
  set_then_more true v o more = refl
  set_then_more false v o more = refl

  pub array_set : (es : List ((ℕ × ℕ) × V)) (i : ℕ) (v : V) (more : ℕ × ℕ → Option V) → IsPlaceOf ids es i
      → (other : ℕ × ℕ) → option_or (lookup (is_ids other) (slice_set es i (ids, v))) (more other) ≡ cond (is_ids ids other) (Some v) (option_or (lookup (is_ids other) es) (more other))
  array_set es i v more place other = ap (λ (o : Option V). option_or o (more other)) (place_set es i v other place) ∙ set_then_more (is_ids ids other) v (lookup (is_ids other) es) (more other)

  pub array_push : (es : List ((ℕ × ℕ) × V)) (v : V) (more : ℕ × ℕ → Option V) → IsNoPair ids es
      → (other : ℕ × ℕ) → option_or (lookup (is_ids other) (es ++ (ids, v) ∷ [])) (more other) ≡ cond (is_ids ids other) (Some v) (option_or (lookup (is_ids other) es) (more other))
  array_push es v more none other = ap (λ (o : Option V). option_or o (more other)) (list_push es v none other) ∙ set_then_more (is_ids ids other) v (lookup (is_ids other) es) (more other)

  -- if the array has no entry of the pair, its value is in the map
  pub further : (es : List ((ℕ × ℕ) × V)) (more : Option V) → IsNoPair ids es → option_or (lookup (is_ids ids) es) more ≡ more
  further es more none = ap (λ (o : Option V). option_or o more) none

  pub further_set : (es : List ((ℕ × ℕ) × V)) (v : V) (more new : ℕ × ℕ → Option V) → IsNoPair ids es → ((other : ℕ × ℕ) → new other ≡ cond (is_ids ids other) (Some v) (more other))
      → (other : ℕ × ℕ) → option_or (lookup (is_ids other) es) (new other) ≡ cond (is_ids ids other) (Some v) (option_or (lookup (is_ids other) es) (more other))
  further_set es v more new none is other =
      elim (cases_Bool (is_ids ids other)) [
        | inl here ↦
            subst (λ (x : ℕ × ℕ). option_or (lookup (is_ids x) es) (new x) ≡ cond (is_ids ids x) (Some v) (option_or (lookup (is_ids x) es) (more x))) (is_same ids other here)
            (further es (new ids) none ∙ is ids ∙ ap (λ (b : Bool). cond b (Some v) (more ids)) (is_itself ids) ∙ ap (λ (b : Bool). cond b (Some v) (option_or (lookup (is_ids ids) es) (more ids))) (sym (is_itself ids)))
        | inr differs ↦
            ap (λ (o : Option V). option_or (lookup (is_ids other) es) o) (is other ∙ ap (λ (b : Bool). cond b (Some v) (more other)) differs)
            ∙ ap (λ (b : Bool). cond b (Some v) (option_or (lookup (is_ids other) es) (more other))) (sym differs)
      ]

  -- a pair that has no value is in neither
  pub nowhere : (es : List ((ℕ × ℕ) × V)) (more : Option V) → option_or (lookup (is_ids ids) es) more ≡ None → IsNoPair ids es × (more ≡ None)
  nowhere es more is = or_none (lookup (is_ids ids) es) more is
