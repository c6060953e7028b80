use Rattle.btf_loader_model.proofs.InTurn.{in_turn}
use Rattle.btf_loader_model.proofs.sections_in_turn.Goals as goal

pub returns : goal.returns
returns c = in_turn
