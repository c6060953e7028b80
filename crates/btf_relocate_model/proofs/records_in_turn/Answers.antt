use Rattle.btf_relocate_model.proofs.Reports as reports
use Rattle.btf_relocate_model.proofs.records_in_turn.Goals as goal

pub returns : goal.returns
returns c = reports.records_in_turn
