use Rattle.btf_model.proofs.Values.{one_value}
use Rattle.btf_model.proofs.variant_values_are_determined.Goals as goal

pub returns : goal.returns
returns c = one_value
