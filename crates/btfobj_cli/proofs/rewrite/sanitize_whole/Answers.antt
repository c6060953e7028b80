use Rattle.std.proofs.Common.{Ok, Err, ap, sym, subst}
use Rattle.std.specs.Prelude.{IfOk}
use Rattle.btf_model.specs.Refusal.{Refusal}
use Rattle.btf_model.specs.Table.{Table}
use Rattle.btf_model.proofs.Comparisons.{same_ok}
use Rattle.btfobj_cli.specs.InputFile.{HasFileTable, is_object}
use Rattle.btfobj_cli.specs.Rewrite.{chosen_target, RewritesTableAlone, RewritesFile}
use Rattle.btfobj_cli.proofs.Files.{rewritten_table}
use Rattle.btfobj_cli.proofs.rewrite.sanitize_whole.Goals as goal

pub returns-in_ok-try_clone-in-Table : goal.returns-in_ok-try_clone-in-Table
returns-in_ok-try_clone-in-Table g c =
    let copy : Table = c.in_ok-try_clone-in-Table.field-0 in
    let has : HasFileTable c.args.input.now copy = subst (λ (t : Table). HasFileTable c.args.input.now t) (sym (same_ok {E = Refusal} copy c.args.table.now c.in_ok-try_clone-in-Table.ensures)) c.requires in
    elim c.sanitize_table.result as (λ r. IfOk r (λ x. RewritesTableAlone copy (chosen_target c.args.rewrite.now) x.0.items x.1.items) → IfOk r (λ x. RewritesFile c.args.input.now c.args.rewrite.now x.0.items x.1.items)) [
      | Ok x ↦ rewritten_table c.args.input.now c.args.rewrite.now copy x.0.items x.1.items (ap is_object c.in-Table.is) has
      | Err e ↦ λ _. tt
    ] c.sanitize_table.ensures
