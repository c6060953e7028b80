use Rattle.std.proofs.Common.{◌+◌, length}
use Rattle.btf_layout.proofs.Runs.{Runs}
use Rattle.btf_layout.proofs.Sets.{left_over}
use Rattle.btf_layout.proofs.run.run.Given as goal

abbrev pub invariant-steps : goal.invariant-steps
invariant-steps l = Runs l.table.records l.fn.known l.known l.below.items l.top l.root

abbrev pub decreases-steps : goal.decreases-steps
decreases-steps l = left_over l.known + length l.below.items
