use Rattle.std.proofs.Common.{inr}
use Rattle.std.proofs.lemmas.Result.{err_from_is_err_and}
use Rattle.btf_compare.proofs.frame.resolve_ids.Goals as goal

pub returns-in_err-target_id : goal.returns-in_err-target_id
returns-in_err-target_id c =
    let e = c.in_err-target_id.ensures in
    let given = err_from_is_err_and c.from_residual-in_err-target_id.result c.from_residual-in_err-target_id.ensures.1 in
    rw (given.1, given.2) (e.0, e.1, inr (c.in_ok-local_id.local_id, c.in_ok-local_id.ensures, e.2))
