-- Each step of a comparison leaves fewer steps.
use Rattle.std.proofs.Common.{◌≡◌, ℕ, suc, ◌+◌, ◌-◌, ◌*◌, ◌<◌, ◌≤◌, List, [], ◌∷◌, ◌++◌, length, Bool, true, false, Option, Some, None, Result, Ok, Err, sym, ap, subst, ◌∙◌, inl, inr, arith}
use Rattle.std.specs.Prelude.{OnOk}
use Rattle.std.specs.BTreeMap.{Updates}
use Rattle.std.specs.Option.{is_some}
use Rattle.std.proofs.lemmas.Bool.{cases_Bool}
use Rattle.std.proofs.Math.Nat.{mul-le-mul_left}
use Rattle.btf_relocate_model.specs.Comparison.{Comparison, same_pair}
use Rattle.btf_relocate_model.specs.declared.comparison.Pair.{Pair}
use Rattle.btf_relocate_model.specs.declared.error.RelocationError.{RelocationError}
use Rattle.btf_relocate.specs.Comparing.{Answers, known_answer, is_among, pair_cmp, InTables, all_pairs, beginning, most, place_left, position_steps, steps_left, all_steps_left, count_new, pair_steps, work, IsAsked}
use Rattle.btf_relocate.specs.declared.types.Frame.{Frame}
use Rattle.btf_relocate.specs.declared.types.Progress.{Progress}
use Rattle.btf_relocate.proofs.Pairs.{at_same, same_is, in_all_pairs, pair_within}

-- ---- places

times_less : (a b n : ℕ) → a < b → n * a + n ≤ n * b
times_less a b n lt = let more : n * suc a ≤ n * b = mul-le-mul_left n (omega (arith, lt)) in omega (arith, more)

less_place : (b i j k l : ℕ) → i < k → i < b → (b - k) * (b + 1) + (b - l) < (b - i) * (b + 1) + (b - j)
less_place b i j k l lt low =
    let less : b - k < b - i = omega (arith, lt, low) in
    let times : (b + 1) * (b - k) + (b + 1) ≤ (b + 1) * (b - i) = times_less (b - k) (b - i) (b + 1) less in
    omega (arith, times)

pub next_place : (i j k l : ℕ) → i < k → i < most → place_left k l < place_left i j
next_place i j k l lt low = less_place most i j k l lt low

pub next_other : (i j l : ℕ) → j < l → j < most → place_left i l < place_left i j
next_other i j l lt low = omega (arith, lt, low)

place_small : (i j : ℕ) → place_left i j < position_steps
place_small i j =
    let few : most - i ≤ most = omega arith in
    let times : (most + 1) * (most - i) ≤ (most + 1) * most = mul-le-mul_left (most + 1) few in
    omega (arith, times)

-- ---- frames

pub next_position : (f g : Frame) → g.left + 1 ≡ f.left → steps_left g < steps_left f
next_position f g is =
    let small : place_left g.index g.other < position_steps = place_small g.index g.other in
    let times : (g.left + 1) * position_steps ≡ f.left * position_steps = ap (λ (n : ℕ). n * position_steps) is in
    omega (arith, small, times)

pub same_position : (f g : Frame) → g.left ≡ f.left → place_left g.index g.other < place_left f.index f.other → steps_left g < steps_left f
same_position f g is less =
    let times : g.left * position_steps ≡ f.left * position_steps = ap (λ (n : ℕ). n * position_steps) is in
    omega (arith, less, times)

pub beginning_steps : (p : Pair) → steps_left (beginning p) ≤ pair_steps
beginning_steps p = let small : place_left 0 0 < position_steps = place_small 0 0 in omega (arith, small)

pub steps_pushed : (fs : List Frame) (f : Frame) → all_steps_left (fs ++ f ∷ []) ≡ all_steps_left fs + steps_left f
steps_pushed [] f = omega arith
steps_pushed (g ∷ fs) f = let rest : all_steps_left (fs ++ f ∷ []) ≡ all_steps_left fs + steps_left f = steps_pushed fs f in omega (arith, rest)

-- ---- pairs

module _ (m n : Answers) (p : Pair) (v : Option Bool) (set : Updates pair_cmp m n p (Some v)) where
  here : (q : Pair) → same_pair p q ≡ true → is_some (known_answer n q) ≡ true
  here q same = ap (λ (r : Pair). is_some (known_answer n r)) (sym (same_is p q same)) ∙ ap is_some set.1

  elsewhere : (q : Pair) → same_pair p q ≡ false → is_some (known_answer n q) ≡ is_some (known_answer m q)
  elsewhere q differs = ap is_some (set.2 q (sym (at_same p q) ∙ differs))

  pub no_more_new : (ps : List Pair) → count_new n ps ≤ count_new m ps
  no_more_new [] = omega arith
  no_more_new (q ∷ ps) =
      let rest : count_new n ps ≤ count_new m ps = no_more_new ps in
      elim (cases_Bool (same_pair p q)) [
        | inl same ↦ let now : is_some (known_answer n q) ≡ true = here q same in elim (cases_Bool (is_some (known_answer m q))) [
          | inl before ↦ rw (now, before) rest
          | inr before ↦ rw (now, before) (omega (arith, rest))
        ]
        | inr differs ↦ let now : is_some (known_answer n q) ≡ is_some (known_answer m q) = elsewhere q differs in elim (cases_Bool (is_some (known_answer m q))) [
          | inl before ↦ rw (now, before) rest
          | inr before ↦ rw (now, before) (omega (arith, rest))
        ]
      ]

  pub fewer_new : (ps : List Pair) → is_among p ps ≡ true → known_answer m p ≡ None → count_new n ps < count_new m ps
  fewer_new [] among none = absurd (cc)
  fewer_new (q ∷ ps) among none = elim (cases_Bool (same_pair p q)) [
    | inl same ↦
        let now : is_some (known_answer n q) ≡ true = here q same in
        let before : is_some (known_answer m q) ≡ false = ap (λ (r : Pair). is_some (known_answer m r)) (sym (same_is p q same)) ∙ ap is_some none in
        let rest : count_new n ps ≤ count_new m ps = no_more_new ps in
        rw (now, before) (omega (arith, rest))
    | inr differs ↦
        let more : is_among p ps ≡ true = rw differs at among in
        let rest : count_new n ps < count_new m ps = fewer_new ps more none in
        let now : is_some (known_answer n q) ≡ is_some (known_answer m q) = elsewhere q differs in
        elim (cases_Bool (is_some (known_answer m q))) [
          | inl before ↦ rw (now, before) rest
          | inr before ↦ rw (now, before) (omega (arith, rest))
        ]
  ]

-- ---- the steps that are left of all

module _ (c : Comparison) where
  -- a comparison ends
  pub ended_work : (old new : Progress) (f : Frame) (p : Pair) (v : Option Bool) → Updates pair_cmp old.pairs new.pairs p (Some v) → new.frames.items ≡ old.frames.items
      → work c new < work c old + steps_left f
  unfolding work
  ended_work old new f p v set same =
      let fewer : count_new new.pairs (all_pairs (length c.local.records) (length c.target.records)) ≤ count_new old.pairs (all_pairs (length c.local.records) (length c.target.records)) = no_more_new old.pairs new.pairs p v set (all_pairs (length c.local.records) (length c.target.records)) in
      let times = mul-le-mul_left pair_steps fewer in
      let frames : all_steps_left new.frames.items ≡ all_steps_left old.frames.items = ap all_steps_left same in
      omega (arith, times, frames)

  -- a comparison goes on
  pub pushed_work : (old new : Progress) (f g : Frame) → new.pairs ≡ old.pairs → new.frames.items ≡ old.frames.items ++ g ∷ [] → steps_left g < steps_left f → work c new < work c old + steps_left f
  unfolding work
  pushed_work old new f g same more less =
      let frames : all_steps_left new.frames.items ≡ all_steps_left old.frames.items + steps_left g = ap all_steps_left more ∙ steps_pushed old.frames.items g in
      let pairs : count_new new.pairs (all_pairs (length c.local.records) (length c.target.records)) * pair_steps ≡ count_new old.pairs (all_pairs (length c.local.records) (length c.target.records)) * pair_steps = ap (λ (m : Answers). count_new m (all_pairs (length c.local.records) (length c.target.records)) * pair_steps) same in
      omega (arith, frames, pairs, less)

  -- another comparison begins
  pub begun_work : (old new : Progress) (p : Pair) → InTables c p → known_answer old.pairs p ≡ None → Updates pair_cmp old.pairs new.pairs p (Some None) → new.frames.items ≡ old.frames.items ++ beginning p ∷ []
      → work c new ≤ work c old
  unfolding work
  begun_work old new p within none set more =
      let frames : all_steps_left new.frames.items ≡ all_steps_left old.frames.items + steps_left (beginning p) = ap all_steps_left more ∙ steps_pushed old.frames.items (beginning p) in
      let fewer : count_new new.pairs (all_pairs (length c.local.records) (length c.target.records)) < count_new old.pairs (all_pairs (length c.local.records) (length c.target.records)) = fewer_new old.pairs new.pairs p None set (all_pairs (length c.local.records) (length c.target.records)) (in_all_pairs c p within) none in
      let times = times_less (count_new new.pairs (all_pairs (length c.local.records) (length c.target.records))) (count_new old.pairs (all_pairs (length c.local.records) (length c.target.records))) pair_steps fewer in
      let small : steps_left (beginning p) ≤ pair_steps = beginning_steps p in
      omega (arith, frames, times, small)

  -- the comparison at the end is taken
  pub popped_work : (old new : Progress) (f : Frame) → old.pairs ≡ new.pairs → old.frames.items ≡ new.frames.items ++ f ∷ [] → work c new + steps_left f ≡ work c old
  unfolding work
  popped_work old new f same more =
      let frames : all_steps_left old.frames.items ≡ all_steps_left new.frames.items + steps_left f = ap all_steps_left more ∙ steps_pushed new.frames.items f in
      let pairs : count_new old.pairs (all_pairs (length c.local.records) (length c.target.records)) * pair_steps ≡ count_new new.pairs (all_pairs (length c.local.records) (length c.target.records)) * pair_steps = ap (λ (m : Answers). count_new m (all_pairs (length c.local.records) (length c.target.records)) * pair_steps) same in
      omega (arith, frames, pairs)

  -- another pair is asked for
  pub asked_work : (old mid new : Progress) (f g : Frame) (p : Pair) (r : Result (Option Bool) RelocationError) → mid.pairs ≡ old.pairs → mid.frames.items ≡ old.frames.items ++ g ∷ [] → steps_left g < steps_left f
      → IsAsked c p mid new r → OnOk r (work c new < work c old + steps_left f)
  asked_work old mid new f g p (Ok (Some b)) same more less (q, is, answer, unchanged) = subst (λ (x : Progress). work c x < work c old + steps_left f) (sym unchanged) (pushed_work old mid f g same more less)
  asked_work old mid new f g p (Ok None) same more less (q, is, none, set, begun) =
      let first : work c mid < work c old + steps_left f = pushed_work old mid f g same more less in
      let second : work c new ≤ work c mid = begun_work mid new q (pair_within c p q is) none set begun in
      omega (arith, first, second)
  asked_work old mid new f g p (Err e) same more less asked = tt
