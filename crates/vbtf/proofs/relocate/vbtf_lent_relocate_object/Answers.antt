use Rattle.std.proofs.Common.{◌≡◌, ◌∙◌, subst}
use Rattle.vbtf.specs.Relocate.{EndsRelocating}
use Rattle.vbtf.specs.declared.opened.Opened.{Opened}
use Rattle.vbtf.proofs.relocate.vbtf_lent_relocate_object.Goals as goal

pub returns-clause-relocated : goal.returns-clause-relocated
returns-clause-relocated c = λ lent small.
    let is : c.get.result.now ≡ c.args.target.now.opened = c.get.ensures ∙ c.in-Some.ensures.2 in
    subst (λ (o : Opened). EndsRelocating c.relocate-status.result c.args.object.now o.btf c.args.options c.args.out.now c.relocate-status.new.out c.relocate-status.new.needed c.args.tally.now c.relocate-status.new.tally c.relocate-status.new.fault) is (c.relocate-status.ensures.relocated small)
