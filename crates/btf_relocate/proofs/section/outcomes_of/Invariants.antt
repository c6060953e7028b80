-- The outcomes so far are those of the reports so far.
use Rattle.std.proofs.Common.{◌≡◌, map, take}
use Rattle.btf_relocate_model.specs.declared.report.Report.{Report}
use Rattle.btf_relocate.proofs.section.outcomes_of.Given as goal

abbrev pub invariant-loop-report : goal.invariant-loop-report
invariant-loop-report l = l.outcomes.items ≡ map (λ (r : Report). r.outcome) (take l.report-index l.reports)
