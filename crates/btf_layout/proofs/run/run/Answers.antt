use Rattle.std.proofs.Common.{◌≡◌, ◌+◌, ◌<◌, ◌≤◌, ℕ, List, [], ◌∷◌, ◌++◌, length, set, ap, sym, ◌∙◌, arith}
use Rattle.std.proofs.lemmas.List.{length-append, nil_from_length}
use Rattle.btf_layout.specs.declared.frame.Frame.{Frame}
use Rattle.btf_layout.specs.declared.progress.Progress.TheVariants.{Open, Known}
use Rattle.btf_layout.proofs.Runs.{starts, goes_down, goes_up, next_inside, next_new, top_inside, ended_knows, ended_stays, none_open, root_known}
use Rattle.btf_layout.proofs.Sets.{left_over, opened_less, closed_less}
use Rattle.btf_layout.proofs.run.run.Goals as goal

pub steps-init : goal.steps-init
steps-init c =
    rw (c.new-below.ensures.items, c.new-top.ensures)
    (starts c.args.table.now.records c.args.known.now c.args.known.now c.args.root (sym c.in-New.ensures) c.requires.known c.requires.closed)

pub bounds-known-type_id : goal.bounds-known-type_id
bounds-known-type_id c =
    next_inside c.args.table.now.records c.args.known.now c.steps.known c.args.root c.steps.below.items c.steps.top c.step-step.new.self c.step-step.result c.steps.invariant c.step-step.ensures.step c.step-step.ensures.frame c.step-step.ensures.id
    c.in-Some.type_id c.in-Some.ensures

-- one type less is new, and one more is on the stack
down_less : (known after n : ℕ) (below : List Frame) (f : Frame) (pushed : List Frame) → after + 2 ≡ known → pushed ≡ below ++ f ∷ [] → after + length pushed < known + length below
down_less known after n below f pushed less is =
    let e : length pushed ≡ length below + 1 = ap length is ∙ length-append below (f ∷ []) in
    omega arith

pub steps-smaller-in-Some : goal.steps-smaller-in-Some
steps-smaller-in-Some c =
    down_less (left_over c.steps.known) (left_over (set c.steps.known c.in-Some.type_id Open)) 0 c.steps.below.items c.step-step.new.self c.push.new.self.items
    (opened_less c.steps.known c.in-Some.type_id
    (next_new c.args.table.now.records c.args.known.now c.steps.known c.args.root c.steps.below.items c.steps.top c.step-step.new.self c.step-step.result c.steps.invariant c.step-step.ensures.step c.step-step.ensures.frame c.step-step.ensures.id
    c.in-Some.type_id c.in-Some.ensures))
    c.in_ok-push.ensures.items

pub steps-preserved-in-Some : goal.steps-preserved-in-Some
steps-preserved-in-Some c =
    rw (c.in_ok-push.ensures.items, c.new-top-in-Some.ensures)
    (goes_down c.args.table.now.records c.args.known.now c.steps.known c.args.root c.steps.below.items c.steps.top c.step-step.new.self c.step-step.result c.steps.invariant c.step-step.ensures.step c.step-step.ensures.frame c.step-step.ensures.id
    c.in-Some.type_id c.in-Some.ensures)

pub returns-in_default-pop-clause-known : goal.returns-in_default-pop-clause-known
returns-in_default-pop-clause-known c =
    rw c.outcome.ensures
    (ended_knows c.args.table.now.records c.args.known.now c.steps.known c.args.root c.steps.below.items c.steps.top c.step-step.new.self c.step-step.result c.steps.invariant c.step-step.ensures.step c.step-step.ensures.frame c.step-step.ensures.id
    c.in_default-starts.ensures)

pub returns-in_default-pop-clause-closed : goal.returns-in_default-pop-clause-closed
returns-in_default-pop-clause-closed c =
    rw c.outcome.ensures
    (none_open c.args.table.now.records c.args.known.now c.steps.known c.args.root c.steps.below.items c.steps.top c.step-step.new.self c.step-step.result c.steps.invariant c.step-step.ensures.step c.step-step.ensures.frame c.step-step.ensures.id
    (nil_from_length c.steps.below.items (sym c.steps.below.ok.0 ∙ c.in_default-pop.ensures.cases.0)))

pub returns-in_default-pop-clause-root : goal.returns-in_default-pop-clause-root
returns-in_default-pop-clause-root c =
    rw c.outcome.ensures
    (root_known c.args.table.now.records c.args.known.now c.steps.known c.args.root c.steps.below.items c.steps.top c.step-step.new.self c.step-step.result c.steps.invariant c.step-step.ensures.step c.step-step.ensures.frame c.step-step.ensures.id
    (nil_from_length c.steps.below.items (sym c.steps.below.ok.0 ∙ c.in_default-pop.ensures.cases.0)))

pub returns-in_default-pop-clause-stays : goal.returns-in_default-pop-clause-stays
returns-in_default-pop-clause-stays c =
    rw c.outcome.ensures
    (ended_stays c.args.table.now.records c.args.known.now c.steps.known c.args.root c.steps.below.items c.steps.top c.step-step.new.self c.step-step.result c.steps.invariant c.step-step.ensures.step c.step-step.ensures.frame c.step-step.ensures.id)

-- one type less is on the stack
up_less : (known after : ℕ) (below rest : List Frame) (f : Frame) → after ≤ known → below ≡ rest ++ f ∷ [] → after + length rest < known + length below
up_less known after below rest f less is =
    let e : length below ≡ length rest + 1 = ap length is ∙ length-append rest (f ∷ []) in
    omega arith

pub steps-smaller : goal.steps-smaller
steps-smaller c =
    up_less (left_over c.steps.known) (left_over (set c.steps.known c.step-step.new.self.id (Known c.outcome.result))) c.steps.below.items c.pop.new.self.items c.in-Some-pop.next
    (closed_less c.steps.known c.step-step.new.self.id c.outcome.result
    (top_inside c.args.table.now.records c.args.known.now c.steps.known c.args.root c.steps.below.items c.steps.top c.step-step.new.self c.step-step.result c.steps.invariant c.step-step.ensures.step c.step-step.ensures.frame c.step-step.ensures.id))
    c.in-Some-pop.ensures.items

pub steps-preserved : goal.steps-preserved
steps-preserved c =
    rw c.outcome.ensures
    (goes_up c.args.table.now.records c.args.known.now c.steps.known c.args.root c.steps.below.items c.steps.top c.step-step.new.self c.step-step.result c.steps.invariant c.step-step.ensures.step c.step-step.ensures.frame c.step-step.ensures.id
    c.in_default-starts.ensures c.pop.new.self.items c.in-Some-pop.next c.in-Some-pop.ensures.items)
