use Rattle.std.proofs.Common.{◌≡◌, Option, Some, Ok, Err, sym, subst, ◌∙◌}
use Rattle.std.specs.Prelude.{IfSome}
use Rattle.btf_model.specs.Refusal.{Refusal}
use Rattle.btf_relocate_model.specs.Types.{walked_id}
use Rattle.btf_relocate.proofs.Walks.{resolved_is}
use Rattle.btf_relocate.proofs.lookup.resolve_id.Goals as goal

pub returns-in-Ok : goal.returns-in-Ok
returns-in-Ok c = sym (resolved_is c.args.table.now.records c.args.type_id (Ok c.in-Ok.id) c.in-Ok.ensures)

pub returns-in-Err : goal.returns-in-Err
returns-in-Err c =
    let refused = c.in-Err.ensures in
    let id = c.args.type_id in
    let error : walked_id id (Some (Err refused.0)) ≡ Err c.walk_error.result =
    subst (λ (o : Option Refusal). IfSome o (λ refusal. walked_id id (Some (Err refusal)) ≡ Err c.walk_error.result)) refused.1 c.walk_error.ensures in
    sym (resolved_is c.args.table.now.records id (Err refused.0) refused.2 ∙ error)
