use Rattle.std.proofs.Common.{◌∙◌, subst, inr, Err}
use Rattle.btf_model.specs.Walk.{HasSize}
use Rattle.vbtf.specs.declared.opened.Opened.{Opened}
use Rattle.vbtf.specs.Status.{ReportsError}
use Rattle.vbtf.proofs.walk.vbtf_lent_size.Goals as goal

pub returns-in-Err-clause-sized : goal.returns-in-Err-clause-sized
returns-in-Err-clause-sized c two =
    let m = c.in-Err.ensures in
    inr (
      m.0,
      subst (ReportsError c.report.result c.report.new.fault) m.1 c.report.ensures,
      subst (λ (o : Opened). HasSize o.btf.records c.args.id (Err m.0)) (c.get.ensures ∙ c.in-Some.ensures.2) m.2,
    )
