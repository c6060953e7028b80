use Rattle.btf_rewrite_model.proofs.Values.{value_stays}
use Rattle.btf_rewrite_model.proofs.variant_value_stays.Goals as goal

pub returns : goal.returns
returns c = value_stays
