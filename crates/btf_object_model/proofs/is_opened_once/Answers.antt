use Rattle.btf_object_model.proofs.Configured.{one_opened}
use Rattle.btf_object_model.proofs.is_opened_once.Goals as goal

pub returns : goal.returns
returns c = one_opened
