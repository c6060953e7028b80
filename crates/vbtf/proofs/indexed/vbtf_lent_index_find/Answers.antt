use Rattle.std.proofs.Common.{◌≡◌, ◌∙◌, ap, subst}
use Rattle.std.specs.Prelude.{is_some}
use Rattle.vbtf.specs.IndexFinding.{FindsIndexed}
use Rattle.vbtf.specs.Status.{EndsOrNoMemory}
use Rattle.vbtf.specs.declared.opened.Opened.{Opened}
use Rattle.vbtf.proofs.indexed.vbtf_lent_index_find.Goals as goal

pub returns-clause-found : goal.returns-clause-found
returns-clause-found c two some utf8 full k is =
    let e : c.get.result.now ≡ c.args.table.now.opened = c.get.ensures ∙ c.in-Some.ensures.2 in
    subst (λ (o : Opened). EndsOrNoMemory c.find_in-status.result c.find_in-status.new.id c.find_in-status.new.fault (FindsIndexed o.btf k c.args.name.now)) e
    (c.find_in-status.ensures.found (ap (λ (o : Opened). is_some o.index) e ∙ some) utf8 full k is)
