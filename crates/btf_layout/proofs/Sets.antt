-- A progress that is written.
use Rattle.std.proofs.Common.{◌≡◌, ◌≢◌, ◌+◌, ◌<◌, ◌≤◌, ◌⊎◌, ℕ, zero, suc, List, [], ◌∷◌, length, set, get_or, refl, ap, sym, subst, ◌∙◌, inl, inr, Some, None, Option, arith, slice_get}
use Rattle.std.specs.List.{sum_by}
use Rattle.std.proofs.lemmas.Bool.Decides.{eqb_tells}
use Rattle.std.proofs.lemmas.List.{length-set}
use Rattle.std.proofs.lemmas.List.Sums.{sum_by-set}
use Rattle.std.proofs.lemmas.Option.{slice_get_within, get_or_from_slice_get}
use Rattle.btf_model.specs.Record.{Record}
use Rattle.btf_layout.specs.declared.progress.Outcome.{Outcome}
use Rattle.btf_layout.specs.declared.progress.Progress.{Progress}
use Rattle.btf_layout.specs.declared.progress.Progress.TheVariants.{New, Open, Known}
use Rattle.btf_layout.specs.Progress.{progress_or, progress_in, IsOutcome, IsKnown, KnowsOutcomes, StaysKnown}

slice_get-set_same : (xs : List Progress) (i : ℕ) (v : Progress) → i < length xs → slice_get (set xs i v) i ≡ Some v
slice_get-set_same [] i v lt = absurd (omega arith)
slice_get-set_same (x ∷ xs) zero v lt = refl
slice_get-set_same (x ∷ xs) (suc i) v lt = slice_get-set_same xs i v (omega arith)

slice_get-set_other : (xs : List Progress) (i j : ℕ) (v : Progress) → j ≢ i → slice_get (set xs i v) j ≡ slice_get xs j
slice_get-set_other [] i j v ne = refl
slice_get-set_other (x ∷ xs) zero zero v ne = absurd (ne refl)
slice_get-set_other (x ∷ xs) zero (suc j) v ne = refl
slice_get-set_other (x ∷ xs) (suc i) zero v ne = refl
slice_get-set_other (x ∷ xs) (suc i) (suc j) v ne = slice_get-set_other xs i j v (λ e. ne (ap suc e))

pub written : (known : List Progress) (i : ℕ) (v : Progress) → i < length known → progress_in (set known i v) i ≡ v
written known i v lt = ap (progress_or i) (slice_get-set_same known i v lt)

pub others : (known : List Progress) (i j : ℕ) (v : Progress) → j ≢ i → progress_in (set known i v) j ≡ progress_in known j
others known i j v ne = ap (progress_or j) (slice_get-set_other known i j v ne)

pub same_or_not : (i j : ℕ) → (i ≡ j) ⊎ (i ≢ j)
same_or_not i j = elim (eqb_tells i j) [ inl h ↦ inl h.1 | inr h ↦ inr h.1 ]

-- ---- progresses that no id beyond the table has

abbrev IsInside : Progress → Type 0
IsInside (Known outcome) = ⊥
IsInside progress = Unit {0}

inside : (known : List Progress) (i : ℕ) → IsInside (progress_in known i) → (i < length known) × (slice_get known i ≡ Some (progress_in known i))
inside known i h = by (slice_get known i) refl where
  by : (o : Option Progress) → slice_get known i ≡ o → (i < length known) × (slice_get known i ≡ Some (progress_in known i))
  by (Some p) e = (slice_get_within known i p e, e ∙ ap Some (sym (ap (progress_or i) e)))
  by None e = absurd (subst IsInside (ap (progress_or i) e) h)

pub new_inside : (known : List Progress) (i : ℕ) → progress_in known i ≡ New → i < length known
new_inside known i e = (inside known i (subst IsInside (sym e) tt)).0

-- ---- the number of new types, twice

abbrev pub weight : Progress → ℕ
weight New = 2
weight progress = 0

abbrev pub left_over : List Progress → ℕ
left_over known = sum_by weight known

pub opened_less : (known : List Progress) (i : ℕ) → progress_in known i ≡ New → left_over (set known i Open) + 2 ≡ left_over known
opened_less known i e =
    let here = inside known i (subst IsInside (sym e) tt) in
    let at : get_or known i New ≡ New = get_or_from_slice_get known i New New (here.1 ∙ ap Some e) in
    ap (λ (p : Progress). left_over (set known i Open) + weight p) (sym at) ∙ sum_by-set weight known i Open New here.0 ∙ no_more (left_over known) where
      no_more : (n : ℕ) → n + 0 ≡ n
      no_more n = omega arith

pub closed_less : (known : List Progress) (i : ℕ) (o : Outcome) → i < length known → left_over (set known i (Known o)) ≤ left_over known
closed_less known i o lt = let e = sum_by-set weight known i (Known o) New lt in less (left_over (set known i (Known o))) (weight (get_or known i New)) (left_over known) e where
  less : (a b n : ℕ) → a + b ≡ n + 0 → a ≤ n
  less a b n e = omega arith

-- ---- what is known

module _ (records : List Record) where
  open_known : (o : Outcome) → Open ≡ Known o → ⊥
  open_known o e = cc

  pub knows_open : (known : List Progress) (i : ℕ) → i < length known → KnowsOutcomes records known → KnowsOutcomes records (set known i Open)
  knows_open known i lt knows = record {
    all = length-set known i Open ∙ knows.all;
    outcomes = λ id o e. by id o e (same_or_not id i);
  } where
    by : (id : ℕ) (o : Outcome) → progress_in (set known i Open) id ≡ Known o → (id ≡ i) ⊎ (id ≢ i) → IsOutcome records id o
    by id o e (inl same) = absurd (open_known o (sym (written known i Open lt) ∙ ap (progress_in (set known i Open)) (sym same) ∙ e))
    by id o e (inr ne) = knows.outcomes id o (sym (others known i id Open ne) ∙ e)

  pub known_same : (o p : Outcome) → Known o ≡ Known p → o ≡ p
  known_same o p e = cc

  pub knows_close : (known : List Progress) (i : ℕ) (o : Outcome) → i < length known → IsOutcome records i o → KnowsOutcomes records known → KnowsOutcomes records (set known i (Known o))
  knows_close known i o lt is knows = record {
    all = length-set known i (Known o) ∙ knows.all;
    outcomes = λ id p e. by id p e (same_or_not id i);
  } where
    by : (id : ℕ) (p : Outcome) → progress_in (set known i (Known o)) id ≡ Known p → (id ≡ i) ⊎ (id ≢ i) → IsOutcome records id p
    by id p e (inl same) =
        subst (IsOutcome records id) (known_same o p (sym (written known i (Known o) lt) ∙ ap (progress_in (set known i (Known o))) (sym same) ∙ e))
        (subst (λ (x : ℕ). IsOutcome records x o) (sym same) is)
    by id p e (inr ne) = knows.outcomes id p (sym (others known i id (Known o) ne) ∙ e)

pub stays_open : (before known : List Progress) (i : ℕ) → progress_in known i ≡ New → StaysKnown before known → StaysKnown before (set known i Open)
stays_open before known i new stays id h = by (same_or_not id i) where
  by : (id ≡ i) ⊎ (id ≢ i) → IsKnown (progress_in (set known i Open) id)
  by (inl same) = absurd (subst IsKnown (ap (progress_in known) same ∙ new) (stays id h))
  by (inr ne) = subst IsKnown (sym (others known i id Open ne)) (stays id h)

pub stays_close : (before known : List Progress) (i : ℕ) (o : Outcome) → i < length known → StaysKnown before known → StaysKnown before (set known i (Known o))
stays_close before known i o lt stays id h = by (same_or_not id i) where
  by : (id ≡ i) ⊎ (id ≢ i) → IsKnown (progress_in (set known i (Known o)) id)
  by (inl same) = subst IsKnown (sym (ap (progress_in (set known i (Known o))) same ∙ written known i (Known o) lt)) tt
  by (inr ne) = subst IsKnown (sym (others known i id (Known o) ne)) (stays id h)
