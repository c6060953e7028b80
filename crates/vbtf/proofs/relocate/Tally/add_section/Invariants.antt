-- The tally has the numbers of before, and of the records so far.
use Rattle.std.proofs.Common.{◌++◌, List, take}
use Rattle.btf_relocate_model.specs.declared.report.Report.{Report}
use Rattle.vbtf.specs.Relocate.{Counts}
use Rattle.vbtf.proofs.relocate.Tally.add_section.Given as goal

abbrev pub invariant-loop-report : goal.invariant-loop-report
invariant-loop-report l = (counted : List Report) → Counts l.fn.self counted → Counts l.self (counted ++ take l.report-index l.report-items)
