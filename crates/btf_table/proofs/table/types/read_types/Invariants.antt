use Rattle.std.proofs.Common.{length}
use Rattle.btf_table.proofs.Sections.{CutInto}
use Rattle.btf_table.proofs.table.types.read_types.Given as goal

abbrev pub invariant-loop-rest : goal.invariant-loop-rest
invariant-loop-rest l = CutInto l.endianness l.data l.types.items l.rest

abbrev pub decreases-loop-rest : goal.decreases-loop-rest
decreases-loop-rest l = length l.rest
