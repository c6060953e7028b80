use Rattle.std.proofs.Common.{refl, sym}
use Rattle.std.proofs.lemmas.Result.{err_from_is_err_and}
use Rattle.btf_compare.specs.Pairs.{pair_of}
use Rattle.btf_compare.proofs.Steps.{refused, waits}
use Rattle.btf_compare.proofs.frame.Frame.next_parameter.Goals as goal

pub returns-in_err-pair-clause-next : goal.returns-in_err-pair-clause-next
returns-in_err-pair-clause-next c =
    let given = err_from_is_err_and c.from_residual.result c.from_residual.ensures.1 in
    rw (given.1, given.2) (refused c.args.local.now c.args.target.now c.args.self.now c.args.found.now c.requires c.in_err-pair.field-0.0 (pair_of c.in-Some.at) (sym c.in-Some.ensures.pair) c.in_err-pair.ensures)

pub returns-clause-next : goal.returns-clause-next
returns-clause-next c = waits c.args.local.now c.args.target.now c.args.self.now c.args.found.now c.requires _ (pair_of c.in-Some.at) c.in_ok-pair.pair refl (sym c.in-Some.ensures.pair) c.in_ok-pair.ensures
