use Rattle.std.proofs.Common.{◌≡◌, ◌∙◌, ℕ, List, ap, subst}
use Rattle.vbtf.specs.declared.opened.Opened.{Opened}
use Rattle.vbtf.specs.ExtRead.{RelocationsOf}
use Rattle.vbtf.specs.Status.{EndsFilling}
use Rattle.vbtf.proofs.ext_read.vbtf_lent_ext_relocations.Goals as goal

pub returns-clause-words : goal.returns-clause-words
returns-clause-words c two utf8 ext is =
    let e : c.get.result.now ≡ c.args.table.now.opened = c.get.ensures ∙ c.in-Some.ensures.2 in
    let text : c.in-Ok.name.now ≡ c.args.name.now = c.in-Ok.ensures.cases.0 in
    let call = c.write_relocations-status in
    subst (λ (p : Opened × List ℕ). EndsFilling call.result c.args.out.now call.new.out call.new.needed call.new.fault (RelocationsOf p.0.btf.strings ext p.1)) (λ i. (e i, text i))
    (call.ensures.words ext (ap (λ (o : Opened). o.ext) e ∙ is))
