use Rattle.std.proofs.Common.{◌∙◌, sym, subst, IsTrue}
use Rattle.btf_order_model.specs.Order.{is_declared_or, may_be_declared_or}
use Rattle.btf_order.proofs.Covers.{true_not_false, frame_needs}
use Rattle.btf_order.proofs.Knowing.{listed_knows, listed_grows, listed_covered}
use Rattle.btf_order.proofs.Results.{on_ok}
use Rattle.btf_order.proofs.progress.Progress.place.Goals as goal

pub returns-then-is_listed-clause-knows : goal.returns-then-is_listed-clause-knows
returns-then-is_listed-clause-knows c =
    let needs = frame_needs c.args.table.now.records c.args.self.now.ids.items c.args.frame.now c.requires.frame c.requires.last (sym c.is_done.ensures ∙ c.if-not-is_done.false) in
    on_ok _ _ c.list.result (listed_knows c.args.table.now.records c.args.self.now c.list.new.self c.requires.knows c.args.frame.now.node.id (subst (λ o. IsTrue (may_be_declared_or o)) (sym c.requires.here) (c.is_listed.ensures.only c.if-is_listed.true)) needs) c.list.ensures.listed

pub returns-then-is_listed-clause-grows : goal.returns-then-is_listed-clause-grows
returns-then-is_listed-clause-grows c =
    let needs = frame_needs c.args.table.now.records c.args.self.now.ids.items c.args.frame.now c.requires.frame c.requires.last (sym c.is_done.ensures ∙ c.if-not-is_done.false) in
    on_ok _ _ c.list.result (listed_grows c.args.table.now.records c.args.self.now c.list.new.self c.requires.knows c.args.frame.now.node.id (subst (λ o. IsTrue (may_be_declared_or o)) (sym c.requires.here) (c.is_listed.ensures.only c.if-is_listed.true)) needs) c.list.ensures.listed

pub returns-then-is_listed-clause-covered : goal.returns-then-is_listed-clause-covered
returns-then-is_listed-clause-covered c =
    let needs = frame_needs c.args.table.now.records c.args.self.now.ids.items c.args.frame.now c.requires.frame c.requires.last (sym c.is_done.ensures ∙ c.if-not-is_done.false) in
    on_ok _ _ c.list.result (λ h done. listed_covered c.args.table.now.records c.args.self.now c.list.new.self c.requires.knows c.args.frame.now.node.id (subst (λ o. IsTrue (may_be_declared_or o)) (sym c.requires.here) (c.is_listed.ensures.only c.if-is_listed.true)) needs h) c.list.ensures.listed

pub returns-clause-covered : goal.returns-clause-covered
returns-clause-covered c done = (
  λ d. absurd (true_not_false (sym (c.is_listed.ensures.all (subst (λ o. IsTrue (is_declared_or o)) c.requires.here d)) ∙ c.if-is_listed.false)),
  frame_needs c.args.table.now.records c.args.self.now.ids.items c.args.frame.now c.requires.frame c.requires.last done,
)
