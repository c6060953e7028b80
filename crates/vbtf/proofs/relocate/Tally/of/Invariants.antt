-- The tally has the numbers of the sections so far.
use Rattle.std.proofs.Common.{take, map}
use Rattle.btf_loader.specs.Results.{outcomes_of}
use Rattle.vbtf.specs.Relocate.{Counts, all_reports}
use Rattle.vbtf.proofs.relocate.Tally.of.Given as goal

abbrev pub invariant-loop-section : goal.invariant-loop-section
invariant-loop-section l = Counts l.tally (all_reports (map outcomes_of (take l.section-index l.sections)))
