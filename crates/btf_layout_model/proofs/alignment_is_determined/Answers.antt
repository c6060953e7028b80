use Rattle.btf_layout_model.proofs.Ends.{determined}
use Rattle.btf_layout_model.proofs.alignment_is_determined.Goals as goal

pub returns : goal.returns
returns c = determined
