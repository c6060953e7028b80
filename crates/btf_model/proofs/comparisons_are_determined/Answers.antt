use Rattle.btf_model.proofs.FieldWalks.{one_field}
use Rattle.btf_model.proofs.OnePlain.{one_plain}
use Rattle.btf_model.proofs.comparisons_are_determined.Goals as goal

pub returns : goal.returns
returns c = record { fields = one_field; types = one_plain }
