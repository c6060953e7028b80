use Rattle.std.proofs.Common.{◌≡◌, ◌∙◌, Err, subst}
use Rattle.std.specs.Prelude.{IfSome}
use Rattle.btf_layout_model.specs.Alignment.{HasAlignment}
use Rattle.btf_plain.specs.Error.{refusal_of}
use Rattle.vbtf.specs.declared.opened.Opened.{Opened}
use Rattle.vbtf.proofs.Ending.{ends_refused}
use Rattle.vbtf.proofs.align.vbtf_lent_alignment.Goals as goal

pub returns-in-Err-clause-found : goal.returns-in-Err-clause-found
returns-in-Err-clause-found c two =
    let e : c.get.result.now ≡ c.args.table.now.opened = c.get.ensures ∙ c.in-Some.ensures.2 in
    ends_refused c.report.result c.args.alignment.now c.report.new.fault (refusal_of c.in-Err.error) (HasAlignment c.args.table.now.opened.btf.records c.args.id)
    (subst (λ (o : Opened). IfSome (refusal_of c.in-Err.error) (λ r. HasAlignment o.btf.records c.args.id (Err r))) e c.in-Err.ensures) c.report.ensures
