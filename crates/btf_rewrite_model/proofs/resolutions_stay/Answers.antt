use Rattle.btf_rewrite_model.proofs.Kept as kept
use Rattle.btf_rewrite_model.proofs.resolutions_stay.Goals as goal

pub returns : goal.returns
returns c = kept.resolutions_stay
