use Rattle.btf_split_model.proofs.Staying.{cut_again}
use Rattle.btf_split_model.proofs.cut_gives_base.Goals as goal

pub returns : goal.returns
returns c = cut_again
