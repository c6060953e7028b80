use Rattle.btf_object_model.proofs.Unique.{one_finalized}
use Rattle.btf_object_model.proofs.is_finalized_once.Goals as goal

pub returns : goal.returns
returns c = one_finalized
