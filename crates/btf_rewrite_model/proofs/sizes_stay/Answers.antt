use Rattle.btf_rewrite_model.proofs.Kept as kept
use Rattle.btf_rewrite_model.proofs.sizes_stay.Goals as goal

pub returns : goal.returns
returns c = kept.sizes_stay
