use Rattle.std.proofs.Common.{◌≡◌, ◌∙◌, ap, subst}
use Rattle.std.specs.Prelude.{is_some}
use Rattle.vbtf.specs.Resolved.{EndsResolving}
use Rattle.vbtf.specs.declared.opened.Opened.{Opened}
use Rattle.vbtf.proofs.target.vbtf_lent_relocate.Goals as goal

pub returns-clause-relocated : goal.returns-clause-relocated
returns-clause-relocated c = λ one two index.
    let e : c.get.result.now ≡ c.args.local.now.opened = c.get.ensures ∙ c.in-Some.ensures.2 in
    let f : c.get-2.result.now ≡ c.args.target.now.opened = c.get-2.ensures ∙ c.in-Some-take_loan.ensures.2 in
    subst (λ (p : Opened × Opened). EndsResolving c.relocate_one-status.result p.0.btf p.1.btf c.args.relocation.now c.args.relocated.now c.relocate_one-status.new.relocated c.relocate_one-status.new.fault)
    (λ i. (e i, f i)) (c.relocate_one-status.ensures.relocated (ap (λ (o : Opened). is_some o.index) f ∙ index))
