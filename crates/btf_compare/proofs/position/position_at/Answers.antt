use Rattle.btf_compare.proofs.Positions.{no_local_type, no_target_type, found_at_ends, if_prototypes}
use Rattle.btf_compare.proofs.position.position_at.Goals as goal
use Rattle.btf_compare.specs.Pairs.{pair_of}

pub returns-in-Err-clause-position : goal.returns-in-Err-clause-position
returns-in-Err-clause-position c = (c.in-Err.ensures.0, c.in-Err.ensures.1, no_local_type c.args.local.now c.args.target.now (pair_of c.args.at) c.in-Err.ensures.0 c.in-Err.ensures.2)

pub returns-in-Err-resolve-clause-position : goal.returns-in-Err-resolve-clause-position
returns-in-Err-resolve-clause-position c = let e = c.in-Err-resolve.ensures in (e.0, e.1, no_target_type c.args.local.now c.args.target.now (pair_of c.args.at) _ e.0 c.in-Ok.ensures e.2)

pub returns-in-Ok-resolve-clause-position : goal.returns-in-Ok-resolve-clause-position
returns-in-Ok-resolve-clause-position c = found_at_ends c.args.local.now c.args.target.now (pair_of c.args.at) _ _ c.types_at.result c.in-Ok.ensures c.in-Ok-resolve.ensures c.types_at.ensures.position

pub returns-in-Ok-resolve-clause-ids : goal.returns-in-Ok-resolve-clause-ids
returns-in-Ok-resolve-clause-ids c = if_prototypes c.args.local.now c.args.target.now (pair_of c.args.at) _ c.types_at.result (c.in-Ok.ensures.0, c.in-Ok-resolve.ensures.0) c.types_at.ensures.ids
