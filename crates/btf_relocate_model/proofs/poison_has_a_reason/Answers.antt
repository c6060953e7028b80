use Rattle.btf_relocate_model.proofs.Patches.{has_a_reason}
use Rattle.btf_relocate_model.proofs.poison_has_a_reason.Goals as goal

pub returns : goal.returns
returns c = has_a_reason
