use Rattle.std.proofs.Common.{arith}
use Rattle.btf_object.proofs.Finalizing.{all_sized}
use Rattle.btf_object.proofs.finalize.sized.set_sizes.Goals as goal

pub returns-clause-made : goal.returns-clause-made
returns-clause-made c = λ base are.
    all_sized base c.args.btf.now c.loop-type_id.btf c.loop-type_id.type_id (omega (arith, c.loop-type_id-test.false, c.type_count-type_id-end.ensures)) (c.loop-type_id.invariant.1 base are)
