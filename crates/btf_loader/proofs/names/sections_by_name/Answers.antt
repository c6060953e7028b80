use Rattle.std.proofs.Common.{◌-◌, length, arith}
use Rattle.btf_loader.proofs.Indices.{all_named}
use Rattle.btf_loader.proofs.names.sections_by_name.Goals as goal

pub returns : goal.returns
returns c = all_named c.loop-done.named c.args.object.now (length c.sections-count.result.now - c.loop-done.done) (omega arith) c.loop-done.invariant
