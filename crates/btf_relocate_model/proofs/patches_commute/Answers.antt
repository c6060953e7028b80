use Rattle.btf_relocate_model.proofs.Exchanges as exchanges
use Rattle.btf_relocate_model.proofs.patches_commute.Goals as goal

pub returns : goal.returns
returns c = exchanges.patches_commute
