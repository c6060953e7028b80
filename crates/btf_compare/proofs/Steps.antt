-- Steps of the walk of an open pair.
use Rattle.std.proofs.Common.{◌≡◌, ℕ, suc, ◌+◌, ◌-◌, ◌<◌, ◌≤◌, List, length, refl, ap, subst, ◌∙◌, arith, inl, inr, Bool, true, Option, Some, None, Ok, Err, Result, slice_get, get_or}
use Rattle.std.proofs.lemmas.Bool.{cases_lt}
use Rattle.std.proofs.lemmas.Option.{slice_get-get_or, none-some}
use Rattle.btf_model.specs.Refusal.{Refusal, MaximumTypeDepthReached}
use Rattle.btf_model.specs.Table.{Table}
use Rattle.btf_model.specs.Walk.{walk_limit}
use Rattle.btf_model.specs.Fields.{Pair}
use Rattle.btf_model.specs.Compat.{Decided, On, Finds, ResolvesPair}
use Rattle.btf_model.specs.Run as runs
use Rattle.btf_model.specs.Run.{IsNext}
use Rattle.btf_plain.specs.Error.{Meets, refusal_of}
use Rattle.btf_plain.specs.declared.error.BtfError.{BtfError}
use Rattle.btf_compare.specs.declared.frame.Frame.{Frame}
use Rattle.btf_compare.specs.declared.frame.Place.{Place}
use Rattle.btf_compare.specs.declared.position.ProtoPair.{ProtoPair}
use Rattle.btf_compare.specs.declared.position.Position.{Position}
use Rattle.btf_compare.specs.declared.position.Position.TheVariants as positions
use Rattle.btf_compare.specs.Compared.{AreAt, GoesPast, WalksTo, IsFound, StepsTo, AfterStep, AfterSteps, frame_of, pending_of}
use Rattle.btf_compare.specs.Pairs.{pair_of}

pub one_more : (taken : ℕ) → taken < walk_limit → walk_limit - taken ≡ suc (walk_limit - (taken + 1))
one_more taken lt = omega (arith, lt)

module _ (local target : Table) (f : Frame) where
  pub too_deep : walk_limit ≤ f.taken → IsNext local target (frame_of f) (runs.Ends (Err (MaximumTypeDepthReached f.at.0)))
  too_deep le = inl (omega (arith, le), refl)

  pub decided : (answer : Result Bool BtfError) → f.taken < walk_limit → Meets (λ b. b) answer (λ a. Finds local target (pair_of f.at) (Decided a)) → Meets (λ b. b) answer (λ a. IsNext local target (frame_of f) (runs.Ends a))
  decided (Ok b) lt h = inr (walk_limit - (f.taken + 1), one_more f.taken lt, inl h)
  decided (Err e) lt h = (h.0, h.1, inr (walk_limit - (f.taken + 1), one_more f.taken lt, inl h.2))

  -- the walk goes on to this position
  abbrev pub GoesTo : Frame → ℕ × ℕ → Type 0
  GoesTo g to = g ≡ record f { at = to; taken = f.taken + 1; parameter = 0 }

  pub on : (g : Frame) (to : ℕ × ℕ) → f.taken < walk_limit → GoesTo g to → Finds local target (pair_of f.at) (On (pair_of to)) → IsNext local target (frame_of f) (runs.GoesOn (frame_of g))
  on g to lt is found = (walk_limit - (f.taken + 1), pair_of to, one_more f.taken lt, ap frame_of is, inl found)

  pub past : (pending : List Pair) (j : ℕ) → None ≡ slice_get pending j → length pending ≤ j
  past pending j is =
      elim (cases_lt j (length pending)) [
        | inl lt ↦ absurd (none-some (get_or pending j (pair_of f.at)) (is ∙ slice_get-get_or pending j (pair_of f.at) lt))
        | inr le ↦ le
      ]

  -- ---- at two prototypes

  module _ (found : ProtoPair) (here : AreAt local target f found) where
    abbrev pub goes_past : (g : Frame) → GoesTo g found.returns → GoesPast local target (frame_of f) (frame_of g) (pair_of found.ids)
    goes_past g is = record {
      pending = pending_of found;
      to = pair_of found.returns;
      left = walk_limit - (f.taken + 1);
      finds = here.finds;
      resolves = here.resolves;
      was = one_more f.taken here.within;
      is = ap frame_of is;
    }

    pub refused : (e : BtfError) (at : Pair) → slice_get (pending_of found) f.parameter ≡ Some at → (h : (refusal : Refusal) × (refusal_of e ≡ Some refusal) × ResolvesPair local target at (Err refusal))
        → (refusal : Refusal) × (refusal_of e ≡ Some refusal) × IsNext local target (frame_of f) (runs.Ends (Err refusal))
    refused e at is h = (h.0, h.1, inr (walk_limit - (f.taken + 1), one_more f.taken here.within, inr (pending_of found, pair_of found.returns, h.0, (here.finds, (at, is, h.2)), refl)))

    -- the open pair after a parameter's turn
    abbrev pub AfterParameter : Frame → Type 0
    AfterParameter g = g ≡ record f { parameter = f.parameter + 1 }

    pub waits : (g : Frame) (at : Pair) (ids : ℕ × ℕ) → AfterParameter g → slice_get (pending_of found) f.parameter ≡ Some at → ResolvesPair local target at (Ok (pair_of ids)) → IsNext local target (frame_of f) (runs.Waits (pair_of ids) (frame_of g))
    waits g at ids is here_at resolves =
        let one : f.parameter + 1 ≡ suc f.parameter = omega arith in
        (walk_limit - (f.taken + 1), pending_of found, pair_of found.returns, one_more f.taken here.within, (here.finds, (at, here_at, resolves)), ap frame_of is ∙ ap (λ (j : ℕ). record { pair = pair_of f.pair; at = pair_of f.at; left = walk_limit - f.taken; parameter = j }) one)

-- ---- walks

module _ (local target : Table) (passed : Pair → Bool) where
  -- a walk that takes one step more
  pub walks_more : (f g h : runs.Frame) → WalksTo local target passed f g → StepsTo local target passed g h → WalksTo local target passed f h
  walks_more f g h walk (inl next) = WalksTo.on g h walk next
  walks_more f g h walk (inr behind) = WalksTo.past g h behind.0 walk behind.1 behind.2 behind.3

  -- a walk that goes on with another one
  pub walks_on : (f g h : runs.Frame) → WalksTo local target passed f g → WalksTo local target passed g h → WalksTo local target passed f h
  walks_on f g h first WalksTo.here = first
  walks_on f g h first (WalksTo.on k l walk next) = WalksTo.on k l (walks_on f g k first walk) next
  walks_on f g h first (WalksTo.past k l ids walk goes is none) = WalksTo.past k l ids (walks_on f g k first walk) goes is none

-- ---- what is at a position

module _ (local target : Table) (f : Frame) where
  -- the position of f, by an equation
  pub found_as : (x y : Position) → x ≡ y → IsFound local target x f → IsFound local target y f
  found_as x y is found = subst (λ (z : Position). IsFound local target z f) is found

  -- the walk of f goes on to another position,
  pub steps_on : (passed : Pair → Bool) (g : Frame) (to : ℕ × ℕ) → f.taken < walk_limit → GoesTo local target f g to → IsFound local target (positions.On to) f → StepsTo local target passed (frame_of f) (frame_of g) × (g.taken ≡ f.taken + 1)
  steps_on passed g to lt is found = (inl (on local target f g to lt is found.position_is), ap (λ (h : Frame). h.taken) is)

  -- f is at two prototypes,
  pub at_prototypes : (found : ProtoPair) → f.taken < walk_limit → IsFound local target (positions.Prototypes found) f → AreAt local target f found
  at_prototypes found lt h = record { finds = h.position_is; resolves = h.ids; within = lt; few = h.few }

  -- or past them
  pub steps_past : (passed : Pair → Bool) (g : Frame) (found : ProtoPair) → f.taken < walk_limit → GoesTo local target f g found.returns → IsFound local target (positions.Prototypes found) f → passed (pair_of found.ids) ≡ true → f.parameter ≡ 0
      → StepsTo local target passed (frame_of f) (frame_of g) × (g.taken ≡ f.taken + 1)
  steps_past passed g found lt is h known none = (inr (pair_of found.ids, goes_past local target f found (at_prototypes found lt h) g is, known, none), ap (λ (k : Frame). k.taken) is)

-- one step is a walk
pub after_steps : (local target : Table) (passed : Pair → Bool) (f g : Frame) (end : Option (Result Place BtfError)) → AfterStep local target passed f g end → AfterSteps local target passed f g end
after_steps local target passed f g None step = walks_more local target passed (frame_of f) (frame_of f) (frame_of g) WalksTo.here step.0
after_steps local target passed f g (Some end) step = step
