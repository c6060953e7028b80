use Rattle.btf_loader_model.proofs.Reasons.{one_reason}
use Rattle.btf_loader_model.proofs.reason_is_determined.Goals as goal

pub returns : goal.returns
returns c = one_reason
