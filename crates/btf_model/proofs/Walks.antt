-- Walks: each has one answer.
use Rattle.std.proofs.Common.{◌≡◌, ℕ, zero, suc, ◌<◌, List, Option, None, Some, Result, Ok, Err, refl, sym, ap, subst, ◌∙◌, arith, inl, inr}
use Rattle.std.specs.Prelude.{slice_get, ◌⊎◌}
use Rattle.std.specs.Result.{result_ok}
use Rattle.std.proofs.lemmas.Option.{same_Some, none-some}
use Rattle.btf_model.specs.Record.{Record}
use Rattle.btf_model.specs.Refusal.{Refusal, UnknownBtfType, MaximumTypeDepthReached}
use Rattle.btf_model.specs.Walk.{Finding, Ends, GoesOn, Leads, WalkAnswers, By, walk_limit, unmodified_in, after_modifier, modified_type, Resolves}

next_or : {P A : Type 0} → P → Finding P A → P
next_or place (Ends answer) = place
next_or place (GoesOn next) = next

answer_or : {P A : Type 0} → Result A Refusal → Finding P A → Result A Refusal
answer_or answer (Ends found) = found
answer_or answer (GoesOn next) = answer

-- whether a walk ends here
IsEnd : {P A : Type 0} → Finding P A → Type 0
IsEnd (Ends answer) = Unit {0}
IsEnd (GoesOn next) = ⊥

pub same_next : {P A : Type 0} (a b : P) → ◌≡◌ {A = Finding P A} (GoesOn a) (GoesOn b) → a ≡ b
unfolding next_or
same_next a b is = ap (next_or a) is

pub same_answer : {P A : Type 0} (a b : Result A Refusal) → ◌≡◌ {A = Finding P A} (Ends a) (Ends b) → a ≡ b
unfolding answer_or
same_answer a b is = ap (answer_or a) is

pub not_both : {P A : Type 0} (f : Finding P A) (a : Result A Refusal) (next : P) → f ≡ Ends a → f ≡ GoesOn next → ⊥
unfolding IsEnd
not_both f a next p q = subst IsEnd (sym p ∙ q) tt

-- at most one thing is found at a place
abbrev pub FindsOne : {P A : Type 0} → (P → Finding P A → Type 0) → Type 0
FindsOne {P = P} {A = A} Finds = (place : P) (f g : Finding P A) → Finds place f → Finds place g → f ≡ g

-- a function finds one thing
pub by_one : {P A : Type 0} (find : P → Finding P A) → FindsOne (By find)
by_one find place f g p q = sym p ∙ q

module _ {P A : Type 0} (Finds : P → Finding P A → Type 0) (one : FindsOne Finds) where
  found_there : (start a b : P) (f : Finding P A) → start ≡ a → start ≡ b → Finds b f → Finds a f
  found_there start a b f p q h = subst (λ (s : P). Finds s f) (sym q ∙ p) h

  on_from : (m : ℕ) (start a b end : P) → Finds start (GoesOn a) → Finds start (GoesOn b) → Leads Finds m b end → Leads Finds m a end
  on_from m start a b end p q h = subst (λ (s : P). Leads Finds m s end) (same_next b a (one start (GoesOn b) (GoesOn a) q p)) h

  -- two walks that end do so with one answer
  same_end : (n m : ℕ) (start a b : P) (x y : Result A Refusal) → Leads Finds n start a → Finds a (Ends x) → Leads Finds m start b → Finds b (Ends y) → x ≡ y
  same_end zero zero start a b x y p ends q ends-b = same_answer x y (one a (Ends x) (Ends y) ends (found_there start a b (Ends y) p q ends-b))
  same_end zero (suc m) start a b x y p ends q ends-b = absurd (not_both (Ends x) x q.0 refl (one start (Ends x) (GoesOn q.0) (subst (λ (s : P). Finds s (Ends x)) (sym p) ends) q.1))
  same_end (suc n) zero start a b x y p ends q ends-b = absurd (not_both (Ends y) y p.0 refl (one start (Ends y) (GoesOn p.0) (subst (λ (s : P). Finds s (Ends y)) (sym q) ends-b) p.1))
  same_end (suc n) (suc m) start a b x y p ends q ends-b = same_end n m p.0 a b x y p.2 ends (on_from m start p.0 q.0 b p.1 q.1 q.2) ends-b

  -- no walk is longer than one that ends
  no_longer : (n m : ℕ) (start a b : P) (x : Result A Refusal) → Leads Finds n start a → Finds a (Ends x) → Leads Finds m start b → n < m → ⊥
  no_longer n zero start a b x p ends q lt = omega (arith, lt)
  no_longer zero (suc m) start a b x p ends q lt = not_both (Ends x) x q.0 refl (one start (Ends x) (GoesOn q.0) (subst (λ (s : P). Finds s (Ends x)) (sym p) ends) q.1)
  no_longer (suc n) (suc m) start a b x p ends q lt = no_longer n m p.0 a b x p.2 ends (on_from m start p.0 q.0 b p.1 q.1 q.2) (omega (arith, lt))

  -- two walks of one length lead to one place
  same_place : (n : ℕ) (start a b : P) → Leads Finds n start a → Leads Finds n start b → a ≡ b
  same_place zero start a b p q = sym p ∙ q
  same_place (suc n) start a b p q = same_place n p.0 a b p.2 (on_from n start p.0 q.0 b p.1 q.1 q.2)

  pub one_answer : (start : P) (too_deep : P → Refusal) (x y : Result A Refusal) → WalkAnswers Finds start too_deep x → WalkAnswers Finds start too_deep y → x ≡ y
  one_answer start too_deep x y (inl p) (inl q) = same_end p.0 q.0 start p.1 q.1 x y p.3 p.4 q.3 q.4
  one_answer start too_deep x y (inl p) (inr q) = absurd (no_longer p.0 walk_limit start p.1 q.0 x p.3 p.4 q.1 p.2)
  one_answer start too_deep x y (inr p) (inl q) = absurd (no_longer q.0 walk_limit start q.1 p.0 y q.3 q.4 p.1 q.2)
  one_answer start too_deep x y (inr p) (inr q) = p.2 ∙ ap (λ (at : P). Err (too_deep at)) (same_place walk_limit start p.0 q.0 p.1 q.1) ∙ sym q.2

-- one more place at the end of a walk
pub lead_on : {P A : Type 0} (Finds : P → Finding P A → Type 0) (n : ℕ) (start end next : P) → Leads Finds n start end → Finds end (GoesOn next) → Leads Finds (suc n) start next
lead_on {P = P} Finds zero start end next p q = (next, subst (λ (s : P). Finds s (GoesOn next)) (sym p) q, refl)
lead_on Finds (suc n) start end next p q = (p.0, p.1, lead_on Finds n p.0 end next p.2 q)

-- a walk over modifiers that ends with an id ends at that id
after_ends : (id end : ℕ) (o : Option ℕ) → after_modifier id o ≡ Ends (Ok end) → id ≡ end
after_ends id end (Some next) is = absurd (not_both (GoesOn next) (Ok end) next is refl)
after_ends id end None is = same_Some id end (ap result_ok (same_answer (Ok id) (Ok end) is))

pub ends_there : (id end : ℕ) (o : Option Record) → unmodified_in id o ≡ Ends (Ok end) → id ≡ end
ends_there id end (Some r) is = after_ends id end (modified_type r) is
ends_there id end None is = absurd (none-some end (ap result_ok (same_answer (Err (UnknownBtfType id)) (Ok end) is)))

pub resolves_to_itself : (records : List Record) (id end : ℕ) → Resolves records id (Ok end) → Resolves records end (Ok end)
resolves_to_itself records id end (inl p) =
    let there : p.1 ≡ end = ends_there p.1 end (slice_get records p.1) p.4 in
    inl (zero, end, omega arith, refl, subst (λ (at : ℕ). unmodified_in at (slice_get records at) ≡ Ends (Ok end)) there p.4)
resolves_to_itself records id end (inr p) = absurd (none-some end (ap result_ok (sym p.2)))

-- ---- every walk has an answer

-- after n steps: the walk ended at one of the places, or it leads on
abbrev EndsWithin : {P A : Type 0} → (P → Finding P A → Type 0) → ℕ → P → Type 0
EndsWithin {P = P} {A = A} Finds n start =
    ((answer : Result A Refusal) × (m : ℕ) × (end : P) × (m < n) × Leads Finds m start end × Finds end (Ends answer)) ⊎ ((end : P) × Leads Finds n start end)

module _ {P A : Type 0} (Finds : P → Finding P A → Type 0) (has : (place : P) → (f : Finding P A) × Finds place f) where
  one_more : (n : ℕ) (start next : P) → Finds start (GoesOn next) → EndsWithin Finds n next → EndsWithin Finds (suc n) start
  one_more n start next h (inl p) = inl (p.0, suc p.1, p.2, omega (arith, p.3), (next, h, p.4), p.5)
  one_more n start next h (inr p) = inr (p.0, (next, h, p.1))

  ends_behind : (n : ℕ) (start : P) (f : Finding P A) → Finds start f → ((next : P) → EndsWithin Finds n next) → EndsWithin Finds (suc n) start
  ends_behind n start (Ends answer) h within = inl (answer, zero, start, omega arith, refl, h)
  ends_behind n start (GoesOn next) h within = one_more n start next h (within next)

  ends_within : (n : ℕ) (start : P) → EndsWithin Finds n start
  ends_within zero start = inr (start, refl)
  ends_within (suc n) start = ends_behind n start (has start).0 (has start).1 (λ next. ends_within n next)

  -- a walk that finds something at each place has an answer
  pub walk_has_answer : (start : P) (too_deep : P → Refusal) → (answer : Result A Refusal) × WalkAnswers Finds start too_deep answer
  walk_has_answer start too_deep =
      elim (ends_within walk_limit start) [
        | inl p ↦ (p.0, inl (p.1, p.2, p.3, p.4, p.5))
        | inr p ↦ (Err (too_deep p.0), inr (p.0, p.1, refl))
      ]

pub resolving_has_answer : (records : List Record) (id : ℕ) → (answer : Result ℕ Refusal) × Resolves records id answer
resolving_has_answer records id = walk_has_answer (By (λ at. unmodified_in at (slice_get records at))) (λ at. (unmodified_in at (slice_get records at), refl)) id (λ _. MaximumTypeDepthReached id)

-- the type that an id resolves to exists
known_end : (id end : ℕ) (o : Option Record) → unmodified_in id o ≡ Ends (Ok end) → (r : Record) × (o ≡ Some r)
known_end id end (Some r) is = (r, refl)
known_end id end None is = absurd (none-some end (ap result_ok (same_answer (Err (UnknownBtfType id)) (Ok end) is)))

pub resolved_is_known : (records : List Record) (id end : ℕ) → Resolves records id (Ok end) → (r : Record) × (slice_get records end ≡ Some r)
resolved_is_known records id end (inl p) =
    let here = known_end p.1 end (slice_get records p.1) p.4 in
    (here.0, ap (λ (at : ℕ). slice_get records at) (sym (ends_there p.1 end (slice_get records p.1) p.4)) ∙ here.1)
resolved_is_known records id end (inr p) = absurd (none-some end (ap result_ok (sym p.2)))
