use Rattle.btf_split_model.proofs.Alone.{alone}
use Rattle.btf_split_model.proofs.empty_base_adds_nothing.Goals as goal

pub returns : goal.returns
returns c = alone
