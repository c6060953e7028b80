use Rattle.std.proofs.Common.{◌≡◌, ◌∙◌, Ok, Err, refl, subst, inl, inr}
use Rattle.btf_plain.specs.Error.{refusal_of}
use Rattle.vbtf.specs.Ext.{AddsExt}
use Rattle.vbtf.specs.Orders.{order_chosen}
use Rattle.vbtf.proofs.Ending.{refused}
use Rattle.vbtf.proofs.ExtOpening.{adds_same}
use Rattle.vbtf.proofs.ext.vbtf_raw_open_ext.Goals as goal
use Rattle.vbtf.proofs.ext.vbtf_raw_open_ext.Goals.{After-owner}

-- the opened .BTF.ext is the handle's
same_old : (c : After-owner) → c.deref_mut.result.now ≡ c.args.table.now.opened
same_old c = c.deref_mut.ensures.value ∙ c.in-Some-take_table.ensures.2

pub returns-in-Ok-true-clause-opened : goal.returns-in-Ok-true-clause-opened
returns-in-Ok-true-clause-opened c owned known =
    let w = (goal.at.returns-in-Ok-true-clause-opened c).After-owner in let order = order_chosen c.args.order c.args.data.now in
    let adds = adds_same c.in-Some.endianness order c.args.data.now c.deref_mut.result.now c.args.table.now.opened c.add_ext-answer.new.opened c.owner.result.opened (Ok c.in-Ok-true.field-0) c.in-Some.ensures.1 (same_old w) c.owner.ensures.1 c.in-Ok-true.ensures.added in
    (c.owner.ensures.0, inl (refl, subst (λ b. AddsExt order c.args.data.now c.args.table.now.opened c.owner.result.opened (Ok b)) c.in-Ok-true.field-0-test adds))

pub returns-in-Ok-false-clause-opened : goal.returns-in-Ok-false-clause-opened
returns-in-Ok-false-clause-opened c owned known =
    let w = (goal.at.returns-in-Ok-false-clause-opened c).After-owner in let order = order_chosen c.args.order c.args.data.now in
    let adds = adds_same c.in-Some.endianness order c.args.data.now c.deref_mut.result.now c.args.table.now.opened c.add_ext-answer.new.opened c.owner.result.opened (Ok c.in-Ok-false.field-0) c.in-Some.ensures.1 (same_old w) c.owner.ensures.1 c.in-Ok-false.ensures.added in
    (c.owner.ensures.0, inr (inl (refl, subst (λ b. AddsExt order c.args.data.now c.args.table.now.opened c.owner.result.opened (Ok b)) c.in-Ok-false.field-0-test adds)))

pub returns-in-Err-clause-opened : goal.returns-in-Err-clause-opened
returns-in-Err-clause-opened c owned known =
    let w = (goal.at.returns-in-Err-clause-opened c).After-owner in let order = order_chosen c.args.order c.args.data.now in
    let ended = refused c.report.result c.report.new.fault (refusal_of c.in-Err.error) (AddsExt c.in-Some.endianness c.args.data.now c.deref_mut.result.now c.add_ext-answer.new.opened) c.in-Err.ensures.added c.report.ensures in (
      c.owner.ensures.0,
      inr (inr (elim ended [
        | inl full ↦ inl (full, c.owner.ensures.1 ∙ c.in-Err.ensures.err ∙ same_old w)
        | inr (refusal, reported, found) ↦ inr (
          refusal,
          reported,
          adds_same c.in-Some.endianness order c.args.data.now c.deref_mut.result.now c.args.table.now.opened c.add_ext-answer.new.opened c.owner.result.opened (Err refusal) c.in-Some.ensures.1 (same_old w) c.owner.ensures.1 found,
        )
      ])),
    )
