-- The comparison of the two types is under way.
use Rattle.std.proofs.Common.{false}
use Rattle.btf_relocate_model.specs.Comparison.{pair}
use Rattle.btf_relocate.specs.Comparing.{work}
use Rattle.btf_relocate.specs.Steps.{comparison}
use Rattle.btf_relocate.proofs.Comparing.{Runs}
use Rattle.btf_relocate.proofs.types.types_alike.Given as goal

-- the steps that are left
abbrev pub decreases-loop-frame : goal.decreases-loop-frame
decreases-loop-frame l = work (comparison l.rule l.local l.target) l.progress

abbrev pub invariant-loop-frame : goal.invariant-loop-frame
invariant-loop-frame l = Runs (comparison l.rule l.local l.target) (pair false l.local_id l.target_id) l.progress l.answer
