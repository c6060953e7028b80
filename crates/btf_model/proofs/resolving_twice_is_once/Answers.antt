use Rattle.btf_model.proofs.Walks.{resolves_to_itself}
use Rattle.btf_model.proofs.resolving_twice_is_once.Goals as goal

pub returns : goal.returns
returns c = resolves_to_itself
