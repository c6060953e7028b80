use Rattle.std.proofs.Common.{◌<◌, length, sym, subst}
use Rattle.btf_order.specs.declared.run.Step.{Step}
use Rattle.btf_order.specs.declared.run.Step.TheVariants.{Down, Up}
use Rattle.btf_order.specs.declared.shape.Node.{Node}
use Rattle.btf_order.specs.Frame.{LinkIs}
use Rattle.btf_order.specs.Uses.{UseLinkIs, UseStepIs}
use Rattle.btf_order.specs.Run.{WalkStepIs}
use Rattle.btf_order.proofs.Covers.{new_frame, frame_after}
use Rattle.btf_order.proofs.Using.{new_use_frame, frame_after_use, use_is}
use Rattle.btf_order.proofs.Knowing.{grows_trans}
use Rattle.btf_order.proofs.Stacks.{Waiting, OnStack, down_waiting, up_waiting, down_open, up_open, down_bottom, up_bottom, step_error}
use Rattle.btf_order.specs.Errors.{IsOrderError}
use Rattle.btf_order.proofs.Results.{if_err_is}
use Rattle.btf_order.proofs.run.run.Goals as goal

pub steps-preserved-in-Down : goal.steps-preserved-in-Down
steps-preserved-in-Down c =
    let step : WalkStepIs c.args.table.now.records c.steps.progress c.advance.new.progress c.advance.new.top (Down c.in-Down.node) =
    subst (λ (s : Step). WalkStepIs c.args.table.now.records c.steps.progress c.advance.new.progress c.advance.new.top s) c.in-Down.is c.in_ok-node-2.ensures.step in
    let use_step : UseStepIs c.args.table.now.records c.advance.new.top (Down c.in-Down.node) =
    subst (λ (s : Step). UseStepIs c.args.table.now.records c.advance.new.top s) c.in-Down.is c.in_ok-node-2.ensures.use_step in
    record {
      knows = c.in_ok-node-2.ensures.knows;
      grows = grows_trans c.args.progress.now c.steps.progress c.advance.new.progress c.steps.invariant.grows c.in_ok-node-2.ensures.grows;
      uses = c.in_ok-node-2.ensures.uses;
      use_frame = new_use_frame c.args.table.now.records c.new-top-in-Down.result c.new-top-in-Down.ensures.next;
      frame = new_frame c.args.table.now.records c.advance.new.progress.ids.items c.new-top-in-Down.result c.new-top-in-Down.ensures.next;
      waiting =
          subst (λ (n : Node). Waiting c.args.table.now.records c.advance.new.progress.ids.items c.push.new.self.items n) (sym c.new-top-in-Down.ensures.node)
          (down_waiting c.args.table.now.records c.steps.progress.ids.items c.advance.new.progress.ids.items c.steps.below.items c.push.new.self.items c.steps.top c.advance.new.top c.in-Down.node
          c.in_ok-node-2.ensures.grows.ids c.in_ok-node-2.ensures.node c.steps.invariant.waiting c.in_ok-node-2.ensures.frame
          (record { refers = step.0; needs = step.2; use_frame = c.in_ok-node-2.ensures.use_frame; next_use = use_step; inside = subst (λ (n : Node). n.id < length c.args.table.now.records) (sym c.in_ok-node-2.ensures.node) c.steps.invariant.inside })
          c.in_ok-push-in-Down.ensures.items);
      inside = subst (λ (n : Node). n.id < length c.args.table.now.records) (sym c.new-top-in-Down.ensures.node) step.4;
      opened = λ u e.
          subst (λ (n : Node). OnStack c.push.new.self.items n u) (sym c.new-top-in-Down.ensures.node)
          (down_open c.steps.progress c.advance.new.progress c.steps.below.items c.push.new.self.items c.steps.top c.advance.new.top c.in-Down.node c.in_ok-node-2.ensures.node c.in_ok-push-in-Down.ensures.items c.steps.invariant.opened step.3 u e);
      bottom =
          down_bottom c.steps.below.items c.push.new.self.items c.steps.top c.advance.new.top c.new-top-in-Down.result.node _ c.in_ok-node-2.ensures.node c.in_ok-push-in-Down.ensures.items c.steps.invariant.bottom;
    }

pub returns-in_default-pop-clause-grows : goal.returns-in_default-pop-clause-grows
returns-in_default-pop-clause-grows c =
    grows_trans c.args.progress.now c.advance.new.progress c.close.new.self
    (grows_trans c.args.progress.now c.steps.progress c.advance.new.progress c.steps.invariant.grows c.in_ok-node-2.ensures.grows) c.in_ok-link-in-Up.ensures.grows

pub after-top-requires : goal.after-top-requires
after-top-requires c =
    let grows = grows_trans c.steps.progress c.advance.new.progress c.close.new.self c.in_ok-node-2.ensures.grows c.in_ok-link-in-Up.ensures.grows in
    (up_waiting c.args.table.now.records c.steps.progress.ids.items c.close.new.self.ids.items c.steps.below.items c.pop.new.self.items c.steps.top.node c.in-Some.next grows.ids c.steps.invariant.waiting c.in-Some.ensures.items).1.1.refers.0

pub steps-preserved : goal.steps-preserved
steps-preserved c =
    let grows = grows_trans c.steps.progress c.advance.new.progress c.close.new.self c.in_ok-node-2.ensures.grows c.in_ok-link-in-Up.ensures.grows in
    let up = up_waiting c.args.table.now.records c.steps.progress.ids.items c.close.new.self.ids.items c.steps.below.items c.pop.new.self.items c.steps.top.node c.in-Some.next grows.ids c.steps.invariant.waiting c.in-Some.ensures.items in
    let step : WalkStepIs c.args.table.now.records c.steps.progress c.advance.new.progress c.advance.new.top Up =
    subst (λ (s : Step). WalkStepIs c.args.table.now.records c.steps.progress c.advance.new.progress c.advance.new.top s) c.in-Up.is c.in_ok-node-2.ensures.step in
    record {
      knows = c.in_ok-link-in-Up.ensures.knows;
      uses = c.in_ok-link-in-Up.ensures.uses;
      use_frame =
          frame_after_use c.args.table.now.records c.in-Some.next c.after-top.result up.1.1.next_use.direct c.in_ok-link-in-Up.link.is_strong up.1.1.use_frame up.1.1.next_use.here
          (use_is c.args.table.now.records c.in-Some.next c.steps.top.node c.in_ok-link-in-Up.link
          (subst (λ (n : Node). UseLinkIs c.args.table.now.records n c.in_ok-link-in-Up.link) c.in_ok-node-2.ensures.node c.in_ok-link-in-Up.ensures.use_link) up.1.1.next_use)
          c.after-top.ensures.node c.after-top.ensures.next c.after-top.ensures.all_strong;
      grows = grows_trans c.args.progress.now c.steps.progress c.close.new.self c.steps.invariant.grows grows;
      frame =
          frame_after c.args.table.now.records c.close.new.self.ids.items c.in-Some.next c.after-top.result c.steps.top.node c.in_ok-link-in-Up.link up.1.0 up.1.1.refers
          (subst (λ (n : Node). LinkIs c.args.table.now.records c.close.new.self.ids.items n c.in_ok-link-in-Up.link) c.in_ok-node-2.ensures.node c.in_ok-link-in-Up.ensures.link)
          c.after-top.ensures.node c.after-top.ensures.next c.after-top.ensures.all_strong;
      waiting =
          subst (λ (n : Node). Waiting c.args.table.now.records c.close.new.self.ids.items c.pop.new.self.items n) (sym c.after-top.ensures.node) up.0;
      inside = subst (λ (n : Node). n.id < length c.args.table.now.records) (sym c.after-top.ensures.node) up.1.1.inside;
      opened = λ u e.
          subst (λ (n : Node). OnStack c.pop.new.self.items n u) (sym c.after-top.ensures.node)
          (up_open c.steps.progress c.advance.new.progress c.close.new.self c.steps.below.items c.pop.new.self.items c.steps.top c.in-Some.next c.advance.new.top.node step.2 c.in_ok-node-2.ensures.node c.in-Some.ensures.items c.steps.invariant.opened c.in_ok-link-in-Up.ensures.closes u e);
      bottom = up_bottom c.steps.below.items c.pop.new.self.items c.steps.top.node c.in-Some.next c.after-top.result _ c.in-Some.ensures.items c.after-top.ensures.node c.steps.invariant.bottom;
    }

pub returns-in_err-node-2-clause-error : goal.returns-in_err-node-2-clause-error
returns-in_err-node-2-clause-error c =
    if_err_is (IsOrderError c.args.table.now.records) c.from_residual-in_err-node-2.result c.in_err-node-2.field-0.0 c.from_residual-in_err-node-2.ensures.1
    (step_error c.args.table.now.records c.steps.progress.ids.items c.steps.below.items c.steps.top.node c.steps.progress c.in_err-node-2.field-0.0 c.steps.invariant.waiting c.steps.invariant.opened c.in_err-node-2.ensures.error)
