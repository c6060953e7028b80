-- The computation of an alignment: what is true of its known progresses, its stack and its top.
use Rattle.std.proofs.Common.{◌≡◌, ◌≢◌, ◌<◌, ◌⊎◌, ◌==◌, ℕ, true, List, [], ◌∷◌, ◌++◌, length, set, refl, ap, sym, subst, ◌∙◌, inl, inr, Some, None, arith}
use Rattle.std.proofs.lemmas.Bool.{eqb-true}
use Rattle.std.proofs.lemmas.Option.{none-some, same_Some}
use Rattle.btf_model.specs.Record.{Record}
use Rattle.btf_layout_model.specs.Alignment.{InPlace, Needs}
use Rattle.btf_layout.specs.declared.frame.Frame.{Frame}
use Rattle.btf_layout.specs.declared.frame.Step.{Step}
use Rattle.btf_layout.specs.declared.frame.Step.TheVariants as steps
use Rattle.btf_layout.specs.declared.progress.Outcome.{Outcome}
use Rattle.btf_layout.specs.declared.progress.Outcome.TheVariants.{Endless}
use Rattle.btf_layout.specs.declared.progress.Progress.{Progress}
use Rattle.btf_layout.specs.declared.progress.Progress.TheVariants.{New, Open, Known}
use Rattle.btf_layout.specs.Frame.{IsMemberFrame, MemberStepIs, started, started_by, step_outcome}
use Rattle.btf_layout.specs.Progress.{progress_in, IsOutcome, IsKnown, KnowsOutcomes, NoneOpen, StaysKnown}
use Rattle.btf_layout.proofs.Sets.{written, others, same_or_not, new_inside, knows_open, knows_close, stays_open, stays_close}
use Rattle.btf_layout.proofs.Stacks.{on_stack, top_on_stack, pushed, popped, Chain, chain_pushed, chain_popped, comes_back, Frames, frames_pushed, frames_popped}

-- the frame of a type before its first member
abbrev pub new_frame : ℕ → Frame
new_frame id = record { id = id; member = 0; largest = 1 }

-- the type is not new
abbrev pub IsBegun : Progress → Type 0
IsBegun New = ⊥
IsBegun progress = Unit {0}

pub record Runs (records : List Record) (before known : List Progress) (below : List Frame) (top : Frame) (root : ℕ) : Type 0 where
  pub knows : KnowsOutcomes records known
  pub frame : IsMemberFrame records top
  pub inside : top.id < length records
  pub frames : Frames records below
  pub chain : Chain records below top.id
  pub open_types : (id : ℕ) → progress_in known id ≡ Open → on_stack below top.id id ≡ true
  pub begun : IsBegun (progress_in known root)
  pub stays : StaysKnown before known

pub new_is_frame : (records : List Record) (id : ℕ) → IsMemberFrame records (new_frame id)
new_is_frame records id size members is = (omega arith, InPlace.none)

module _ (records : List Record) (before known : List Progress) (root : ℕ) where
  begun_open : (i : ℕ) → i < length known → IsBegun (progress_in known root) → IsBegun (progress_in (set known i Open) root)
  begun_open i lt begun = by (same_or_not root i) where
    by : (root ≡ i) ⊎ (root ≢ i) → IsBegun (progress_in (set known i Open) root)
    by (inl same) = subst IsBegun (sym (ap (progress_in (set known i Open)) same ∙ written known i Open lt)) tt
    by (inr ne) = subst IsBegun (sym (others known i root Open ne)) begun

  -- the computation starts with a new type
  pub starts : progress_in known root ≡ New → KnowsOutcomes records known → NoneOpen known → Runs records known (set known root Open) [] (new_frame root) root
  starts new knows closed =
      let lt = new_inside known root new in record {
        knows = knows_open records known root lt knows;
        frame = new_is_frame records root;
        inside = subst (λ (n : ℕ). root < n) knows.all lt;
        frames = tt;
        chain = tt;
        open_types = λ id h. by id h (same_or_not id root);
        begun = subst IsBegun (sym (written known root Open lt)) tt;
        stays = stays_open known known root new (λ id h. h);
      } where
        by : (id : ℕ) → progress_in (set known root Open) id ≡ Open → (id ≡ root) ⊎ (id ≢ root) → (id == root) ≡ true
        by id h (inl same) = subst (λ (x : ℕ). (x == root) ≡ true) (sym same) (top_on_stack [] root)
        by id h (inr ne) = absurd (closed id (sym (others known root id Open ne) ∙ h))

  module _ (below : List Frame) (top : Frame) (after : Frame) (step : Step) (runs : Runs records before known below top root) (is : MemberStepIs records known top.id step) (frame : IsMemberFrame records after) (same : after.id ≡ top.id) where
    -- the type that a step starts is new, and needed
    starts_new : (next : ℕ) → Some next ≡ started known step → (progress_in known next ≡ New) × Needs records top.id next
    starts_new next e = by step is e where
      by : (s : Step) → MemberStepIs records known top.id s → Some next ≡ started known s → (progress_in known next ≡ New) × Needs records top.id next
      by (steps.Ends outcome) h f = absurd (none-some next (sym f))
      by (steps.Needs type) h f = new_by (progress_in known type) refl f where
        new_by : (p : Progress) → progress_in known type ≡ p → Some next ≡ started_by type p → (progress_in known next ≡ New) × Needs records top.id next
        new_by New g f =
            let here = same_Some next type f in
            (ap (progress_in known) here ∙ g, subst (Needs records top.id) (sym here) h.0)
        new_by Open g f = absurd (none-some next (sym f))
        new_by (Known outcome) g f = absurd (none-some next (sym f))

    after_inside : after.id < length records
    after_inside = subst (λ (i : ℕ). i < length records) (sym same) runs.inside

    after_chain : Chain records below after.id
    after_chain = subst (Chain records below) (sym same) runs.chain

    after_open : (id : ℕ) → progress_in known id ≡ Open → on_stack below after.id id ≡ true
    after_open id h = subst (λ (i : ℕ). on_stack below i id ≡ true) (sym same) (runs.open_types id h)

    -- the step to a new type
    pub goes_down : (next : ℕ) → Some next ≡ started known step → Runs records before (set known next Open) (below ++ after ∷ []) (new_frame next) root
    goes_down next e =
        let found = starts_new next e in
        let lt = new_inside known next found.0 in record {
          knows = knows_open records known next lt runs.knows;
          frame = new_is_frame records next;
          inside = subst (λ (n : ℕ). next < n) runs.knows.all lt;
          frames = frames_pushed records below after runs.frames frame after_inside;
          chain = chain_pushed records below after next after_chain (subst (λ (i : ℕ). Needs records i next) (sym same) found.1);
          open_types = λ id h. by id h (same_or_not id next);
          begun = begun_open next lt runs.begun;
          stays = stays_open before known next found.0 runs.stays;
        } where
          by : (id : ℕ) → progress_in (set known next Open) id ≡ Open → (id ≡ next) ⊎ (id ≢ next) → on_stack (below ++ after ∷ []) next id ≡ true
          by id h (inl here) = subst (λ (x : ℕ). on_stack (below ++ after ∷ []) next x ≡ true) (sym here) (top_on_stack (below ++ after ∷ []) next)
          by id h (inr ne) = pushed below after next id (after_open id (sym (others known next id Open ne) ∙ h))

    pub next_inside : (next : ℕ) → Some next ≡ started known step → next < length known
    next_inside next e = new_inside known next (starts_new next e).0

    pub next_new : (next : ℕ) → Some next ≡ started known step → progress_in known next ≡ New
    next_new next e = (starts_new next e).0

    pub top_inside : after.id < length known
    top_inside = subst (λ (n : ℕ). after.id < n) (sym runs.knows.all) after_inside

    -- the outcome of a type that starts no other
    outcome_is : None ≡ started known step → IsOutcome records after.id (step_outcome step)
    outcome_is e = subst (λ (i : ℕ). IsOutcome records i (step_outcome step)) (sym same) (by step is e) where
      by : (s : Step) → MemberStepIs records known top.id s → None ≡ started known s → IsOutcome records top.id (step_outcome s)
      by (steps.Ends outcome) h f = h
      by (steps.Needs type) h f = back (progress_in known type) refl f where
        back : (p : Progress) → progress_in known type ≡ p → None ≡ started_by type p → IsOutcome records top.id Endless
        back New g f = absurd (none-some type f)
        back Open g f = comes_back records below top.id type runs.chain h.0 (runs.open_types type g)
        back (Known outcome) g f = absurd (h.1 (subst IsKnown (sym g) tt))

    abbrev ended : List Progress
    ended = set known after.id (Known (step_outcome step))

    pub ended_knows : None ≡ started known step → KnowsOutcomes records ended
    ended_knows e = knows_close records known after.id (step_outcome step) top_inside (outcome_is e) runs.knows

    pub ended_stays : StaysKnown before ended
    ended_stays = stays_close before known after.id (step_outcome step) top_inside runs.stays

    ended_begun : IsBegun (progress_in ended root)
    ended_begun = by (same_or_not root after.id) where
      by : (root ≡ after.id) ⊎ (root ≢ after.id) → IsBegun (progress_in ended root)
      by (inl here) = subst IsBegun (sym (ap (progress_in ended) here ∙ written known after.id (Known (step_outcome step)) top_inside)) tt
      by (inr ne) = subst IsBegun (sym (others known after.id root (Known (step_outcome step)) ne)) runs.begun

    known_open : (o : Outcome) → Known o ≡ Open → ⊥
    known_open o e = cc

    -- an open type that is left is another type of the stack
    left : (id : ℕ) → progress_in ended id ≡ Open → (id ≢ after.id) × (on_stack below after.id id ≡ true)
    left id h = by (same_or_not id after.id) where
      by : (id ≡ after.id) ⊎ (id ≢ after.id) → (id ≢ after.id) × (on_stack below after.id id ≡ true)
      by (inl here) = absurd (known_open (step_outcome step) (sym (written known after.id (Known (step_outcome step)) top_inside) ∙ ap (progress_in ended) (sym here) ∙ h))
      by (inr ne) = (ne, after_open id (sym (others known after.id id (Known (step_outcome step)) ne) ∙ h))

    -- the computation goes on with the type below
    pub goes_up : None ≡ started known step → (rest : List Frame) (f : Frame) → below ≡ rest ++ f ∷ [] → Runs records before ended rest f root
    goes_up e rest f split =
        let frames = frames_popped records rest f (subst (Frames records) split runs.frames) in record {
          knows = ended_knows e;
          frame = frames.1;
          inside = frames.2;
          frames = frames.0;
          chain = chain_popped records rest f after.id (subst (λ (fs : List Frame). Chain records fs after.id) split after_chain);
          open_types = λ id h. popped rest f after.id id (left id h).0 (subst (λ (fs : List Frame). on_stack fs after.id id ≡ true) split (left id h).1);
          begun = ended_begun;
          stays = ended_stays;
        }

    -- the computation is at its end
    pub none_open : below ≡ [] → NoneOpen ended
    none_open empty id h =
        let there = left id h in
        there.0 (eqb-true id after.id (subst (λ (fs : List Frame). on_stack fs after.id id ≡ true) empty there.1))

    pub root_known : below ≡ [] → IsKnown (progress_in ended root)
    root_known empty = by (progress_in ended root) refl ended_begun where
      by : (p : Progress) → progress_in ended root ≡ p → IsBegun p → IsKnown p
      by New e begun = begun
      by Open e begun = none_open empty root e
      by (Known outcome) e begun = tt
