-- The candidates so far are none.
use Rattle.btf_relocate.proofs.Among.{SameTable}
use Rattle.btf_relocate.proofs.modules.first_table.Given as goal

abbrev pub invariant-loop-one : goal.invariant-loop-one
invariant-loop-one l = SameTable l.other l.found l.one-index
