use Rattle.std.proofs.Common.{◌≡◌, ◌∙◌, Bool, sym, ap}
use Rattle.std.specs.Prelude.{◌&&◌}
use Rattle.btfobj_cli.specs.Compat.{is_compatible}
use Rattle.btfobj_cli.proofs.Compared.{one_more}
use Rattle.btfobj_cli.proofs.compatibility.compat.Goals as goal
use Rattle.btfobj_cli.proofs.compatibility.compat.Goals.{then-all, else-all}

pub loop-name-preserved : goal.loop-name-preserved
loop-name-preserved g c =
    let finding = c.in_ok-finding.finding in
    let all : c.if-all.all ≡ (c.loop-name.all && is_compatible finding) = elim c.if-all.branch [
      | then-all w ↦ w.all-is ∙ w.is_compatible-all.ensures ∙ sym (ap (λ (b : Bool). b && is_compatible finding) w.if-all.true)
      | else-all w ↦ w.all-is ∙ w.if-all.false ∙ sym (ap (λ (b : Bool). b && is_compatible finding) w.if-all.false)
    ] in
    one_more c.args.local.now c.args.target.now c.args.names.now c.loop-name.name-index _ finding c.loop-name.all c.if-all.all c.loop-name-test.true c.in_ok-finding.ensures all c.loop-name.invariant
