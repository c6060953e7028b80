use Rattle.btf_rewrite_model.proofs.GrantedAll.{suffice}
use Rattle.btf_rewrite_model.proofs.granted_features_suffice.Goals as goal

pub returns : goal.returns
returns c = suffice
