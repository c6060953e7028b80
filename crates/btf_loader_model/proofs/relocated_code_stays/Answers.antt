use Rattle.btf_loader_model.proofs.CodeStays.{code_stays}
use Rattle.btf_loader_model.proofs.relocated_code_stays.Goals as goal

pub returns : goal.returns
returns c = code_stays
