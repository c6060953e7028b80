use Rattle.std.proofs.Common.{ℕ, List, ap, ◌∙◌}
use Rattle.std.specs.Prelude.{map}
use Rattle.btf_relocate_model.specs.declared.report.Report.{Report}
use Rattle.btf_relocate.specs.SectionsAmong.{candidates_left}
use Rattle.btf_relocate.proofs.SectionsAmong.{all_outcomes}
use Rattle.btf_relocate.proofs.section.relocate_section_among.Goals as goal

pub returns : goal.returns
returns c =
    all_outcomes c.args.policy c.args.local.now c.args.targets.now c.args.code.now c.relocate_records.new.code c.args.records.now c.in_ok-reports.reports.items (candidates_left c.args.policy c.args.local.now c.args.targets.now c.new-left.result)
    (c.new-left.ensures c.args.policy c.args.local.now c.args.targets.now) c.in_ok-reports.ensures.reported c.as_slice.result.now c.as_slice.ensures.value c.outcomes_of.result c.outcomes_of.ensures
