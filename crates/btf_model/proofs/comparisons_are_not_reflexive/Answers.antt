use Rattle.btf_model.proofs.ShiftedInts.{fields_shifted, types_shifted, shifted_occurs}
use Rattle.btf_model.proofs.comparisons_are_not_reflexive.Goals as goal

pub returns : goal.returns
returns c = record { fields = fields_shifted; types = types_shifted; occurs = shifted_occurs }
