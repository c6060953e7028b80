use Rattle.btf_relocate_model.proofs.Reports as reports
use Rattle.btf_relocate_model.proofs.reports_have_outcomes.Goals as goal

pub returns : goal.returns
returns c = reports.reports_have_outcomes
