use Rattle.std.proofs.Common.{◌≡◌, ◌∷◌, ◌++◌, ◌+◌, ◌≤◌, [], ℕ, List, Option, Bool, true, false, Result, Ok, Err, ◌∙◌, refl, sym, ap, subst, length, inl, inr}
use Rattle.btf_model.proofs.RunLengths.{less_compared}
use Rattle.btf_model.proofs.Known.{known_pairs}
use Rattle.btf_plain.specs.declared.error.BtfError.{BtfError}
use Rattle.btf_plain.specs.declared.error.BtfError.TheVariants.{OutOfMemory}
use Rattle.btf_compare.specs.declared.frame.Frame.{Frame}
use Rattle.btf_compare.specs.declared.frame.Place.{Place}
use Rattle.btf_compare.specs.declared.frame.Place.TheVariants.{Ends, Pending}
use Rattle.btf_compare.specs.declared.entries.Progress.{Progress}
use Rattle.btf_compare.specs.PairMap.{known_progress, count, Learns}
use Rattle.btf_compare.specs.Compared.{HasStarted, NextParameterIs, frame_of, passed_in, pending_of, is_progress_open, is_progress_compatible, opened_in, compatible_in, progress_of, Compares}
use Rattle.btf_compare.specs.Pairs.{pair_of}
use Rattle.btf_compare.proofs.Comparing as runs_of
use Rattle.btf_compare.proofs.Comparing.{ReportsOneMore, propagated, stack_of, no_memory, ends_refused, ends_true, compares_all, is_open, is_refused, differs, reported_on}
use Rattle.btf_compare.proofs.Progresses.{known_if_open, open_if, compatible_if, unknown_if}
use Rattle.btf_compare.proofs.Walking.{waits_for, still_pending, Running, PassedIn, shorter, begun, begun_passed, walks, walks_less, walk_fails, ends_by, settled_below, settled_less, settled_passed, returned, returned_less, returned_passed}
use Rattle.btf_compare.proofs.Inner.{Above, inner_no_memory, inner_fails, inner_false, inner_settled, inner_settled_less, inner_settled_passed, inner_open, inner_open_less, inner_open_passed}
use Rattle.btf_compare.proofs.Begun.{Walked, walked_unless_false}
use Rattle.btf_compare.proofs.Roots.{root_frame, root_no_memory, nothing_passed}
use Rattle.btf_compare.proofs.run.compare_on.Invariants.{reported}
use Rattle.btf_model.specs.Table.{Table}
use Rattle.btf_compare.proofs.run.compare_on.Given.{Over}
use Rattle.btf_compare.proofs.run.compare_on.Goals as goal
use Rattle.btf_compare.proofs.run.compare_on.Goals.{After-walk, After-walk-in_default-2, After-branch-end, In_ok-insert, In_ok-end}

-- ---- the pair of the call

-- a claim about the pairs that were reported before holds of this list
first_reported : (g : Over) (local target : Table) (root : ℕ × ℕ) (result : Result Bool BtfError) (begun now : g.row.S.Denot) → Compares local target (pair_of root) result (reported g root begun now) → (before : g.row.S.Denot) → g.S.Starts.has_added before begun (root ∷ []) → Compares local target (pair_of root) result (g.S.Starts.has_added before now)
first_reported g local target root result begun now h before began = reported_on local target (pair_of root) result (reported g root begun now) (g.S.Starts.has_added before now) (λ ids is. is before began) h

pub returns-in_err-insert : goal.returns-in_err-insert
returns-in_err-insert g c =
    first_reported g c.args.local.now c.args.target.now c.args.first.pair c.from_residual.result c.args.starts.now c.args.starts.now
    (root_no_memory c.args.local.now c.args.target.now c.args.first.pair (reported g c.args.first.pair c.args.starts.now c.args.starts.now) c.requires.begins (λ before began. began) c.allocator_of.ensures c.requires.kinds c.from_residual.result
    (propagated c.from_residual.result OutOfMemory c.from_residual.ensures.1))

-- before its first step
root_runs : (g : Over) (c : In_ok-insert g) → Running c.args.local.now c.args.target.now (pair_of c.args.first.pair) c.insert.new.self c.new-run.result.below.items (root_frame c.args.first.pair) (reported g c.args.first.pair c.args.starts.now c.args.starts.now)
root_runs g c =
    begun c.args.local.now c.args.target.now c.args.first.pair c.new-run.result.seen c.insert.new.self c.new-run.ensures.seen c.in_ok-insert.ensures.learns (root_frame c.args.first.pair) c.new-run.result.below.items (reported g c.args.first.pair c.args.starts.now c.args.starts.now)
    c.requires.begins refl c.new-run.ensures.below c.in_ok-insert.ensures.counts c.new-run.ensures.counts (λ before began. began)

root_passed : (g : Over) (c : In_ok-insert g) → PassedIn c.args.local.now c.args.target.now c.insert.new.self c.new-run.result.passed
root_passed g c =
    begun_passed c.args.local.now c.args.target.now c.args.first.pair c.new-run.result.seen c.insert.new.self c.new-run.ensures.seen c.in_ok-insert.ensures.learns c.new-run.result.passed c.new-run.result.passed c.new-run.ensures.passed refl

pub steps-init : goal.steps-init
steps-init g c =
    let s = (goal.at.steps-init g c).In_ok-insert in (
      walks c.args.local.now c.args.target.now (pair_of c.args.first.pair) c.insert.new.self c.new-run.result.passed c.new-run.result.below.items (root_frame c.args.first.pair) (reported g c.args.first.pair c.args.starts.now c.args.starts.now) (root_runs g s) (root_passed g s) c.args.first
          (rw (nothing_passed c.new-run.result.passed c.new-run.ensures.passed) c.requires.walked),
      root_passed g s,
      c.requires.here,
    )

-- ---- a walk that is at its end

pub returns-in-Ends-false : goal.returns-in-Ends-false
returns-in-Ends-false g c =
    first_reported g c.args.local.now c.args.target.now c.args.first.pair _ c.args.starts.now _
    (
    runs_of.ends_false c.args.local.now c.args.target.now (pair_of c.args.first.pair) (opened_in c.steps.run.seen) (compatible_in c.steps.run.seen) (frame_of c.steps.top) (stack_of c.steps.run.below.items) (count c.steps.run.seen) (reported g c.args.first.pair c.args.starts.now c.steps.starts) c.steps.invariant.0
    (ends_by c.args.local.now c.args.target.now c.steps.top c.steps.place c.in-Ends-false.field-0 false c.in-Ends-false.is c.in-Ends-false.field-0-test c.steps.invariant.2)
    )

pub returns-in_default : goal.returns-in_default
returns-in_default g c =
    first_reported g c.args.local.now c.args.target.now c.args.first.pair _ c.args.starts.now _
    (
    ends_true c.args.local.now c.args.target.now (pair_of c.args.first.pair) (opened_in c.steps.run.seen) (compatible_in c.steps.run.seen) (frame_of c.steps.top) (stack_of c.steps.run.below.items) (count c.steps.run.seen) (reported g c.args.first.pair c.args.starts.now c.steps.starts) c.steps.invariant.0
    (ends_by c.args.local.now c.args.target.now c.steps.top c.steps.place c.in-Ends-true.field-0 true c.in-Ends-true.is c.in-Ends-true.field-0-test c.steps.invariant.2) (ap stack_of c.in_default.ensures.next)
    )

pub mark_compatible-requires : goal.mark_compatible-requires
mark_compatible-requires g c = known_if_open (known_progress c.steps.run.seen c.steps.top.pair) (c.steps.invariant.0.has_all (pair_of c.steps.top.pair) (inl refl))

next_runs : (g : Over) (c : After-walk g) → Running c.args.local.now c.args.target.now (pair_of c.args.first.pair) c.mark_compatible.new.self.seen c.mark_compatible.new.self.below.items c.in-Some.next (reported g c.args.first.pair c.args.starts.now c.steps.starts)
next_runs g c =
    settled_below c.args.local.now c.args.target.now (pair_of c.args.first.pair) c.steps.run.seen c.steps.run.passed c.steps.run.below.items c.steps.top (reported g c.args.first.pair c.args.starts.now c.steps.starts) c.steps.invariant.0 c.steps.invariant.1 c.mark_compatible.new.self.seen
    c.mark_compatible.ensures.settled c.in-Some.next c.mark_compatible.new.self.below.items c.in-Some.ensures.next c.mark_compatible.ensures.counts
    (ends_by c.args.local.now c.args.target.now c.steps.top c.steps.place c.in-Ends-true.field-0 true c.in-Ends-true.is c.in-Ends-true.field-0-test c.steps.invariant.2)

next_passed : (g : Over) (c : After-walk g) → PassedIn c.args.local.now c.args.target.now c.mark_compatible.new.self.seen c.mark_compatible.new.self.passed
next_passed g c =
    settled_passed c.args.local.now c.args.target.now (pair_of c.args.first.pair) c.steps.run.seen c.steps.run.passed c.steps.run.below.items c.steps.top (reported g c.args.first.pair c.args.starts.now c.steps.starts) c.steps.invariant.0 c.steps.invariant.1 c.mark_compatible.new.self.seen
    c.mark_compatible.ensures.settled c.mark_compatible.new.self.passed c.mark_compatible.ensures.passed

pub returns-in_err-place-in-Ends-true : goal.returns-in_err-place-in-Ends-true
returns-in_err-place-in-Ends-true g c =
    first_reported g c.args.local.now c.args.target.now c.args.first.pair _ c.args.starts.now _
    (
    walk_fails c.args.local.now c.args.target.now (pair_of c.args.first.pair) c.mark_compatible.new.self.seen c.mark_compatible.new.self.passed c.mark_compatible.new.self.below.items c.in-Some.next (reported g c.args.first.pair c.args.starts.now c.steps.starts) (next_runs g (goal.at.returns-in_err-place-in-Ends-true g c).After-walk) (next_passed g (goal.at.returns-in_err-place-in-Ends-true g c).After-walk) c.walk.new.self
    c.walk.ensures.walks c.in_err-place-in-Ends-true.field-0.0 c.from_residual-in_err-place-in-Ends-true.result c.in_err-place-in-Ends-true.ensures.comes (propagated c.from_residual-in_err-place-in-Ends-true.result c.in_err-place-in-Ends-true.field-0.0 c.from_residual-in_err-place-in-Ends-true.ensures.1)
    )

pub steps-smaller-in-Ends-true : goal.steps-smaller-in-Ends-true
steps-smaller-in-Ends-true g c =
    shorter _ _ _
    (walks_less c.args.local.now c.args.target.now (pair_of c.args.first.pair) c.mark_compatible.new.self.seen c.mark_compatible.new.self.passed c.mark_compatible.new.self.below.items c.in-Some.next (reported g c.args.first.pair c.args.starts.now c.steps.starts) (next_runs g (goal.at.steps-smaller-in-Ends-true g c).After-walk) (next_passed g (goal.at.steps-smaller-in-Ends-true g c).After-walk) c.walk.new.self
    c.walk.ensures.walks)
    (settled_less c.args.local.now c.args.target.now (pair_of c.args.first.pair) c.steps.run.seen c.steps.run.passed c.steps.run.below.items c.steps.top (reported g c.args.first.pair c.args.starts.now c.steps.starts) c.steps.invariant.0 c.steps.invariant.1 c.mark_compatible.new.self.seen
    c.mark_compatible.ensures.settled c.in-Some.next c.mark_compatible.new.self.below.items c.in-Some.ensures.next c.mark_compatible.ensures.counts)

pub steps-preserved-in-Ends-true : goal.steps-preserved-in-Ends-true
steps-preserved-in-Ends-true g c = (
  walks c.args.local.now c.args.target.now (pair_of c.args.first.pair) c.mark_compatible.new.self.seen c.mark_compatible.new.self.passed c.mark_compatible.new.self.below.items c.in-Some.next (reported g c.args.first.pair c.args.starts.now c.steps.starts) (next_runs g (goal.at.steps-preserved-in-Ends-true g c).After-walk) (next_passed g (goal.at.steps-preserved-in-Ends-true g c).After-walk) c.walk.new.self
      c.walk.ensures.walks,
  next_passed g (goal.at.steps-preserved-in-Ends-true g c).After-walk,
  c.in_ok-place-in-Ends-true.ensures.comes,
)

-- ---- parameters

pub returns-in_err-pair : goal.returns-in_err-pair
returns-in_err-pair g c =
    first_reported g c.args.local.now c.args.target.now c.args.first.pair _ c.args.starts.now _
    (
    ends_refused c.args.local.now c.args.target.now (pair_of c.args.first.pair) (opened_in c.steps.run.seen) (compatible_in c.steps.run.seen) (frame_of c.steps.top) (stack_of c.steps.run.below.items) (count c.steps.run.seen) (reported g c.args.first.pair c.args.starts.now c.steps.starts) c.steps.invariant.0
    (Err c.in_err-pair.field-0.0) c.from_residual-in_err-pair.result c.in_err-pair.field-0.0 refl (propagated c.from_residual-in_err-pair.result c.in_err-pair.field-0.0 c.from_residual-in_err-pair.ensures.1) c.in_err-pair.ensures.next
    )

pub returns-in_err-pass : goal.returns-in_err-pass
returns-in_err-pass g c =
    first_reported g c.args.local.now c.args.target.now c.args.first.pair _ c.args.starts.now _
    (
    no_memory c.args.local.now c.args.target.now (pair_of c.args.first.pair) (opened_in c.steps.run.seen) (compatible_in c.steps.run.seen) (frame_of c.steps.top) (stack_of c.steps.run.below.items) (count c.steps.run.seen) (reported g c.args.first.pair c.args.starts.now c.steps.starts) c.steps.invariant.0
    c.allocator_of.ensures c.requires.kinds c.from_residual-in_err-pass.result (propagated c.from_residual-in_err-pass.result OutOfMemory c.from_residual-in_err-pass.ensures.1)
    )

-- no parameter is left
none_left : (g : Over) (c : After-walk-in_default-2 g) → (length (pending_of c.in-Pending.found) ≤ c.steps.top.parameter) × (c.next_parameter.new.self ≡ c.steps.top)
none_left g c = subst (λ (o : Option (ℕ × ℕ)). NextParameterIs c.args.local.now c.args.target.now c.steps.top c.next_parameter.new.self c.in-Pending.found (Ok o)) c.in_default-2.is c.in_ok-pair.ensures.next

compared_runs : (g : Over) (c : After-walk-in_default-2 g) → Running c.args.local.now c.args.target.now (pair_of c.args.first.pair) c.pass.new.self.seen c.pass.new.self.below.items c.next_parameter.new.self (reported g c.args.first.pair c.args.starts.now c.steps.starts)
compared_runs g c =
    let IsReported = reported g c.args.first.pair c.args.starts.now c.steps.starts in
    rw (c.pass.ensures.seen, c.pass.ensures.below) (subst (λ (f : Frame). Running c.args.local.now c.args.target.now (pair_of c.args.first.pair) c.steps.run.seen c.steps.run.below.items f IsReported) (sym (none_left g c).1) c.steps.invariant.0)

compared_passed : (g : Over) (c : After-walk-in_default-2 g) → PassedIn c.args.local.now c.args.target.now c.pass.new.self.seen c.steps.run.passed
compared_passed g c = rw c.pass.ensures.seen c.steps.invariant.1

all_compared : (g : Over) (c : After-walk-in_default-2 g) → length (pending_of c.in-Pending.found) ≤ c.next_parameter.new.self.parameter
all_compared g c = subst (λ (f : Frame). length (pending_of c.in-Pending.found) ≤ f.parameter) (sym (none_left g c).1) (none_left g c).0

on_runs : (g : Over) (c : After-walk-in_default-2 g) → Running c.args.local.now c.args.target.now (pair_of c.args.first.pair) c.pass.new.self.seen c.pass.new.self.below.items c.go_on.new.self (reported g c.args.first.pair c.args.starts.now c.steps.starts)
on_runs g c =
    returned c.args.local.now c.args.target.now (pair_of c.args.first.pair) c.pass.new.self.seen c.steps.run.passed c.pass.new.self.below.items c.next_parameter.new.self (reported g c.args.first.pair c.args.starts.now c.steps.starts) (compared_runs g c) (compared_passed g c) c.in-Pending.found c.next_parameter.ensures.here (all_compared g c) c.go_on.new.self
    c.go_on.ensures

on_passed : (g : Over) (c : After-walk-in_default-2 g) → PassedIn c.args.local.now c.args.target.now c.pass.new.self.seen c.pass.new.self.passed
on_passed g c =
    returned_passed c.args.local.now c.args.target.now (pair_of c.args.first.pair) c.pass.new.self.seen c.steps.run.passed c.pass.new.self.below.items c.next_parameter.new.self (reported g c.args.first.pair c.args.starts.now c.steps.starts) (compared_runs g c) (compared_passed g c) c.in-Pending.found c.next_parameter.ensures.here (all_compared g c)
    c.go_on.new.self c.go_on.ensures c.pass.new.self.passed c.in_ok-pass.ensures.passed

pub returns-in_err-place : goal.returns-in_err-place
returns-in_err-place g c =
    first_reported g c.args.local.now c.args.target.now c.args.first.pair _ c.args.starts.now _
    (
    walk_fails c.args.local.now c.args.target.now (pair_of c.args.first.pair) c.pass.new.self.seen c.pass.new.self.passed c.pass.new.self.below.items c.go_on.new.self (reported g c.args.first.pair c.args.starts.now c.steps.starts) (on_runs g (goal.at.returns-in_err-place g c).After-walk-in_default-2) (on_passed g (goal.at.returns-in_err-place g c).After-walk-in_default-2) c.walk-in_default-2.new.self
    c.walk-in_default-2.ensures.walks c.in_err-place.field-0.0 c.from_residual-in_err-place.result c.in_err-place.ensures.comes (propagated c.from_residual-in_err-place.result c.in_err-place.field-0.0 c.from_residual-in_err-place.ensures.1)
    )

pub steps-smaller-in_default-2 : goal.steps-smaller-in_default-2
steps-smaller-in_default-2 g c =
    let back = (none_left g (goal.at.steps-smaller-in_default-2 g c).After-walk-in_default-2).1 in
    shorter _ _ _
    (walks_less c.args.local.now c.args.target.now (pair_of c.args.first.pair) c.pass.new.self.seen c.pass.new.self.passed c.pass.new.self.below.items c.go_on.new.self (reported g c.args.first.pair c.args.starts.now c.steps.starts) (on_runs g (goal.at.steps-smaller-in_default-2 g c).After-walk-in_default-2) (on_passed g (goal.at.steps-smaller-in_default-2 g c).After-walk-in_default-2) c.walk-in_default-2.new.self
    c.walk-in_default-2.ensures.walks)
    (rw (sym c.pass.ensures.seen, sym c.pass.ensures.below, sym back)
    (returned_less c.args.local.now c.args.target.now (pair_of c.args.first.pair) c.pass.new.self.seen c.steps.run.passed c.pass.new.self.below.items c.next_parameter.new.self (reported g c.args.first.pair c.args.starts.now c.steps.starts) (compared_runs g (goal.at.steps-smaller-in_default-2 g c).After-walk-in_default-2) (compared_passed g (goal.at.steps-smaller-in_default-2 g c).After-walk-in_default-2) c.in-Pending.found c.next_parameter.ensures.here (all_compared g (goal.at.steps-smaller-in_default-2 g c).After-walk-in_default-2)
    c.go_on.new.self c.go_on.ensures))

pub steps-preserved-in_default-2 : goal.steps-preserved-in_default-2
steps-preserved-in_default-2 g c = (
  walks c.args.local.now c.args.target.now (pair_of c.args.first.pair) c.pass.new.self.seen c.pass.new.self.passed c.pass.new.self.below.items c.go_on.new.self (reported g c.args.first.pair c.args.starts.now c.steps.starts) (on_runs g (goal.at.steps-preserved-in_default-2 g c).After-walk-in_default-2) (on_passed g (goal.at.steps-preserved-in_default-2 g c).After-walk-in_default-2) c.walk-in_default-2.new.self
      c.walk-in_default-2.ensures.walks,
  on_passed g (goal.at.steps-preserved-in_default-2 g c).After-walk-in_default-2,
  c.in_ok-place.ensures.comes,
)

-- ---- a pending pair

pub returns-in_err-is_known_compatible : goal.returns-in_err-is_known_compatible
returns-in_err-is_known_compatible g c =
    first_reported g c.args.local.now c.args.target.now c.args.first.pair _ c.args.starts.now _
    (
    let it = open_if c.in-Some-2.pair.0 (known_progress c.steps.run.seen c.in-Some-2.pair) c.in_err-is_known_compatible.field-0.0 (sym c.in_err-is_known_compatible.ensures) in
    subst (λ (r : Result Bool BtfError). Compares c.args.local.now c.args.target.now (pair_of c.args.first.pair) r (reported g c.args.first.pair c.args.starts.now c.steps.starts))
    (sym (propagated c.from_residual-in_err-is_known_compatible.result c.in_err-is_known_compatible.field-0.0 c.from_residual-in_err-is_known_compatible.ensures.1 ∙ ap (λ (e : BtfError). Err e) it.1))
    (is_open c.args.local.now c.args.target.now (pair_of c.args.first.pair) (opened_in c.steps.run.seen) (compatible_in c.steps.run.seen) (frame_of c.steps.top) (stack_of c.steps.run.below.items) (count c.steps.run.seen) (reported g c.args.first.pair c.args.starts.now c.steps.starts) c.steps.invariant.0
    (pair_of c.in-Some-2.pair) (frame_of c.next_parameter.new.self) (waits_for c.args.local.now c.args.target.now c.steps.top c.next_parameter.new.self c.in-Pending.found c.in_ok-pair.field-0 c.in-Some-2.pair c.in-Some-2.is c.in_ok-pair.ensures.next) it.0)
    )

pub steps-smaller-then-branch : goal.steps-smaller-then-branch
steps-smaller-then-branch g c =
    let local = c.args.local.now in
    let target = c.args.target.now in
    less_compared local target (length (known_pairs local target)) (count c.steps.run.seen) (frame_of c.steps.top) (frame_of c.next_parameter.new.self) (pair_of c.in-Some-2.pair) (stack_of c.steps.run.below.items) (waits_for c.args.local.now c.args.target.now c.steps.top c.next_parameter.new.self c.in-Pending.found c.in_ok-pair.field-0 c.in-Some-2.pair c.in-Some-2.is c.in_ok-pair.ensures.next)

pub steps-preserved-then-branch : goal.steps-preserved-then-branch
steps-preserved-then-branch g c = (
  compares_all c.args.local.now c.args.target.now (pair_of c.args.first.pair) (opened_in c.steps.run.seen) (compatible_in c.steps.run.seen) (frame_of c.steps.top) (stack_of c.steps.run.below.items) (count c.steps.run.seen) (reported g c.args.first.pair c.args.starts.now c.steps.starts) c.steps.invariant.0
      (pair_of c.in-Some-2.pair) (frame_of c.next_parameter.new.self) (waits_for c.args.local.now c.args.target.now c.steps.top c.next_parameter.new.self c.in-Pending.found c.in_ok-pair.field-0 c.in-Some-2.pair c.in-Some-2.is c.in_ok-pair.ensures.next) (compatible_if c.in-Some-2.pair.0 (known_progress c.steps.run.seen c.in-Some-2.pair) (sym c.in_ok-is_known_compatible.ensures ∙ ap (λ (b : Bool). Ok b) c.if-branch.true)),
  c.steps.invariant.1,
  still_pending c.args.local.now c.args.target.now c.next_parameter.new.self c.steps.place c.in-Pending.found c.in-Pending.is c.next_parameter.ensures.here,
)

pub start-requires : goal.start-requires
start-requires g c = unknown_if c.in-Some-2.pair.0 (known_progress c.steps.run.seen c.in-Some-2.pair) (sym c.in_ok-is_known_compatible.ensures ∙ ap (λ (b : Bool). Ok b) c.if-branch.false)

-- the walk of a started pair
above : (g : Over) (c : After-branch-end g) (end : Result Place BtfError) → Walked c.args.local.now c.args.target.now (passed_in c.steps.run.passed) (pair_of c.in-Some-2.pair) c.start.new.frame end → ReportsOneMore (reported g c.args.first.pair c.args.starts.now c.steps.starts) (reported g c.args.first.pair c.args.starts.now c.start.new.starts) c.in-Some-2.pair
    → Above c.args.local.now c.args.target.now (pair_of c.args.first.pair) c.steps.run.seen c.steps.run.passed c.steps.run.below.items c.steps.top (reported g c.args.first.pair c.args.starts.now c.steps.starts) (reported g c.args.first.pair c.args.starts.now c.start.new.starts) c.in-Some-2.pair c.next_parameter.new.self (root_frame c.in-Some-2.pair) c.start.new.frame
above g c end w tells = record {
  state = c.steps.invariant.0;
  are = c.steps.invariant.1;
  next = waits_for c.args.local.now c.args.target.now c.steps.top c.next_parameter.new.self c.in-Pending.found c.in_ok-pair.field-0 c.in-Some-2.pair c.in-Some-2.is c.in_ok-pair.ensures.next;
  unknown = unknown_if c.in-Some-2.pair.0 (known_progress c.steps.run.seen c.in-Some-2.pair) (sym c.in_ok-is_known_compatible.ensures ∙ ap (λ (b : Bool). Ok b) c.if-branch.false);
  begins = w.0;
  tells = tells;
  new = refl;
  goes = w.1;
}

-- ---- it ends with an error

pub returns-in_err-end : goal.returns-in_err-end
returns-in_err-end g c =
    let s = (goal.at.returns-in_err-end g c).After-branch-end in
    let result = c.from_residual-in_err-end.result in
    let is = propagated c.from_residual-in_err-end.result c.in_err-end.field-0.0 c.from_residual-in_err-end.ensures.1 in
    first_reported g c.args.local.now c.args.target.now c.args.first.pair _ c.args.starts.now _
    (elim c.in_err-end.ensures [
      | inl refused ↦
          reported_on c.args.local.now c.args.target.now (pair_of c.args.first.pair) result (reported g c.args.first.pair c.args.starts.now c.steps.starts) (reported g c.args.first.pair c.args.starts.now c.start.new.starts) (λ ids h before began. refused.1 before ids (h before began))
          (is_refused c.args.local.now c.args.target.now (pair_of c.args.first.pair) (opened_in c.steps.run.seen) (compatible_in c.steps.run.seen) (frame_of c.steps.top) (stack_of c.steps.run.below.items) (count c.steps.run.seen) (reported g c.args.first.pair c.args.starts.now c.steps.starts) c.steps.invariant.0
          (pair_of c.in-Some-2.pair) (frame_of c.next_parameter.new.self) (waits_for c.args.local.now c.args.target.now c.steps.top c.next_parameter.new.self c.in-Pending.found c.in_ok-pair.field-0 c.in-Some-2.pair c.in-Some-2.is c.in_ok-pair.ensures.next) (ap is_progress_open (unknown_if c.in-Some-2.pair.0 (known_progress c.steps.run.seen c.in-Some-2.pair) (sym c.in_ok-is_known_compatible.ensures ∙ ap (λ (b : Bool). Ok b) c.if-branch.false))) (ap is_progress_compatible (unknown_if c.in-Some-2.pair.0 (known_progress c.steps.run.seen c.in-Some-2.pair) (sym c.in_ok-is_known_compatible.ensures ∙ ap (λ (b : Bool). Ok b) c.if-branch.false))) c.allocator_of.ensures c.requires.kinds
          c.in_err-end.field-0.0 result refused.0 is)
      | inr walked ↦
          let w = walked_unless_false c.args.local.now c.args.target.now (passed_in c.steps.run.passed) (pair_of c.in-Some-2.pair) c.start.new.frame (Err c.in_err-end.field-0.0) refl walked.0 in
          inner_fails (above g s (Err c.in_err-end.field-0.0) w (λ ids h before began. walked.3 before ids (h before began))) c.in_err-end.field-0.0 result w.2 is
    ])

-- ---- it ends otherwise

-- the state of the run after it
came : (g : Over) (c : In_ok-end g) → HasStarted c.args.local.now c.args.target.now (passed_in c.steps.run.passed) (pair_of c.in-Some-2.pair) c.start.new.frame (Ok c.in_ok-end.end) × (c.start.new.frame.pair ≡ c.in-Some-2.pair) × (Learns c.steps.run.seen c.start.new.listed c.in-Some-2.pair (progress_of (Ok c.in_ok-end.end)) × (count c.start.new.listed ≡ count c.steps.run.seen + 1))
    × ((before : g.row.S.Denot) (ids : List (ℕ × ℕ)) → g.S.Starts.has_added before c.steps.starts ids → g.S.Starts.has_added before c.start.new.starts (ids ++ c.in-Some-2.pair ∷ []))
came g c = elim c.in_ok-end.ensures [ inl failed ↦ absurd failed.0 | inr started ↦ started ]

pub returns-in-Ends-false-end : goal.returns-in-Ends-false-end
returns-in-Ends-false-end g c =
    let s = (goal.at.returns-in-Ends-false-end g c).After-branch-end in
    let h = came g (goal.at.returns-in-Ends-false-end g c).In_ok-end in
    let is : c.in_ok-end.end ≡ Ends false = c.in-Ends-false-end.is ∙ ap (λ (b : Bool). Ends b) c.in-Ends-false-end.field-0-test in
    first_reported g c.args.local.now c.args.target.now c.args.first.pair _ c.args.starts.now _
    (elim (subst (λ (p : Place). HasStarted c.args.local.now c.args.target.now (passed_in c.steps.run.passed) (pair_of c.in-Some-2.pair) c.start.new.frame (Ok p)) is h.0) [
      | inl kinds ↦
          differs c.args.local.now c.args.target.now (pair_of c.args.first.pair) (opened_in c.steps.run.seen) (compatible_in c.steps.run.seen) (frame_of c.steps.top) (stack_of c.steps.run.below.items) (count c.steps.run.seen) (reported g c.args.first.pair c.args.starts.now c.steps.starts) c.steps.invariant.0
          (pair_of c.in-Some-2.pair) (frame_of c.next_parameter.new.self) (waits_for c.args.local.now c.args.target.now c.steps.top c.next_parameter.new.self c.in-Pending.found c.in_ok-pair.field-0 c.in-Some-2.pair c.in-Some-2.is c.in_ok-pair.ensures.next) (ap is_progress_open (unknown_if c.in-Some-2.pair.0 (known_progress c.steps.run.seen c.in-Some-2.pair) (sym c.in_ok-is_known_compatible.ensures ∙ ap (λ (b : Bool). Ok b) c.if-branch.false))) (ap is_progress_compatible (unknown_if c.in-Some-2.pair.0 (known_progress c.steps.run.seen c.in-Some-2.pair) (sym c.in_ok-is_known_compatible.ensures ∙ ap (λ (b : Bool). Ok b) c.if-branch.false))) (reported g c.args.first.pair c.args.starts.now c.start.new.starts)
          kinds.0 (λ ids reported before began. h.3 before ids (reported before began))
      | inr w ↦ inner_false (above g s (Ok (Ends false)) w (λ ids reported before began. h.3 before ids (reported before began))) w.2
    ])

-- it is compatible

pub steps-smaller-in-Ends-true-end : goal.steps-smaller-in-Ends-true-end
steps-smaller-in-Ends-true-end g c =
    let s = (goal.at.steps-smaller-in-Ends-true-end g c).After-branch-end in
    let h = came g (goal.at.steps-smaller-in-Ends-true-end g c).In_ok-end in
    let is = c.in-Ends-true-end.is ∙ ap (λ (b : Bool). Ends b) c.in-Ends-true-end.field-0-test in
    let w = walked_unless_false c.args.local.now c.args.target.now (passed_in c.steps.run.passed) (pair_of c.in-Some-2.pair) c.start.new.frame (Ok (Ends true)) refl (subst (λ (p : Place). HasStarted c.args.local.now c.args.target.now (passed_in c.steps.run.passed) (pair_of c.in-Some-2.pair) c.start.new.frame (Ok p)) is h.0) in
    let inner = above g s (Ok (Ends true)) w (λ ids reported before began. h.3 before ids (reported before began)) in
    inner_settled_less inner h.1 c.start.new.listed (subst (λ (p : Progress). Learns c.steps.run.seen c.start.new.listed c.in-Some-2.pair p) (ap (λ (p : Place). progress_of (Ok p)) is) h.2.0) h.2.1

pub steps-preserved-in-Ends-true-end : goal.steps-preserved-in-Ends-true-end
steps-preserved-in-Ends-true-end g c =
    let s = (goal.at.steps-preserved-in-Ends-true-end g c).After-branch-end in
    let h = came g (goal.at.steps-preserved-in-Ends-true-end g c).In_ok-end in
    let is = c.in-Ends-true-end.is ∙ ap (λ (b : Bool). Ends b) c.in-Ends-true-end.field-0-test in
    let w = walked_unless_false c.args.local.now c.args.target.now (passed_in c.steps.run.passed) (pair_of c.in-Some-2.pair) c.start.new.frame (Ok (Ends true)) refl (subst (λ (p : Place). HasStarted c.args.local.now c.args.target.now (passed_in c.steps.run.passed) (pair_of c.in-Some-2.pair) c.start.new.frame (Ok p)) is h.0) in
    let inner = above g s (Ok (Ends true)) w (λ ids reported before began. h.3 before ids (reported before began)) in
    let learns = (subst (λ (p : Progress). Learns c.steps.run.seen c.start.new.listed c.in-Some-2.pair p) (ap (λ (p : Place). progress_of (Ok p)) is) h.2.0) in (
      inner_settled inner h.1 c.start.new.listed learns h.2.1 w.2,
      inner_settled_passed inner h.1 c.start.new.listed learns,
      still_pending c.args.local.now c.args.target.now c.next_parameter.new.self c.steps.place c.in-Pending.found c.in-Pending.is c.next_parameter.ensures.here,
    )

-- it is at prototypes

pub returns-in_err-push-in-Pending-end : goal.returns-in_err-push-in-Pending-end
returns-in_err-push-in-Pending-end g c =
    let s = (goal.at.returns-in_err-push-in-Pending-end g c).After-branch-end in
    let h = came g (goal.at.returns-in_err-push-in-Pending-end g c).In_ok-end in
    let is = c.in-Pending-end.is in
    let w = walked_unless_false c.args.local.now c.args.target.now (passed_in c.steps.run.passed) (pair_of c.in-Some-2.pair) c.start.new.frame (Ok (Pending c.in-Pending-end.inside)) refl (subst (λ (p : Place). HasStarted c.args.local.now c.args.target.now (passed_in c.steps.run.passed) (pair_of c.in-Some-2.pair) c.start.new.frame (Ok p)) is h.0) in
    let inner = above g s (Ok (Pending c.in-Pending-end.inside)) w (λ ids reported before began. h.3 before ids (reported before began)) in
    first_reported g c.args.local.now c.args.target.now c.args.first.pair _ c.args.starts.now _
    (inner_no_memory inner c.allocator_of.ensures c.requires.kinds c.from_residual-in_err-push-in-Pending-end.result
    (propagated c.from_residual-in_err-push-in-Pending-end.result OutOfMemory c.from_residual-in_err-push-in-Pending-end.ensures.1))

pub steps-smaller : goal.steps-smaller
steps-smaller g c =
    let s = (goal.at.steps-smaller g c).After-branch-end in
    let h = came g (goal.at.steps-smaller g c).In_ok-end in
    let is = c.in-Pending-end.is in
    let w = walked_unless_false c.args.local.now c.args.target.now (passed_in c.steps.run.passed) (pair_of c.in-Some-2.pair) c.start.new.frame (Ok (Pending c.in-Pending-end.inside)) refl (subst (λ (p : Place). HasStarted c.args.local.now c.args.target.now (passed_in c.steps.run.passed) (pair_of c.in-Some-2.pair) c.start.new.frame (Ok p)) is h.0) in
    let inner = above g s (Ok (Pending c.in-Pending-end.inside)) w (λ ids reported before began. h.3 before ids (reported before began)) in
    inner_open_less inner c.start.new.listed (subst (λ (p : Progress). Learns c.steps.run.seen c.start.new.listed c.in-Some-2.pair p) (ap (λ (p : Place). progress_of (Ok p)) is) h.2.0) h.2.1 c.push.new.self.items c.in_ok-push-in-Pending-end.ensures.items

pub steps-preserved : goal.steps-preserved
steps-preserved g c =
    let s = (goal.at.steps-preserved g c).After-branch-end in
    let h = came g (goal.at.steps-preserved g c).In_ok-end in
    let is = c.in-Pending-end.is in
    let w = walked_unless_false c.args.local.now c.args.target.now (passed_in c.steps.run.passed) (pair_of c.in-Some-2.pair) c.start.new.frame (Ok (Pending c.in-Pending-end.inside)) refl (subst (λ (p : Place). HasStarted c.args.local.now c.args.target.now (passed_in c.steps.run.passed) (pair_of c.in-Some-2.pair) c.start.new.frame (Ok p)) is h.0) in
    let inner = above g s (Ok (Pending c.in-Pending-end.inside)) w (λ ids reported before began. h.3 before ids (reported before began)) in
    let learns = (subst (λ (p : Progress). Learns c.steps.run.seen c.start.new.listed c.in-Some-2.pair p) (ap (λ (p : Place). progress_of (Ok p)) is) h.2.0) in (
      inner_open inner c.start.new.listed learns h.2.1 c.push.new.self.items c.in_ok-push-in-Pending-end.ensures.items,
      inner_open_passed inner c.start.new.listed learns,
      w.2,
    )
