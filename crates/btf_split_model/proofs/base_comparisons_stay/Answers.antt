use Rattle.btf_split_model.proofs.Comparing.{fields_stay, comparison_stays}
use Rattle.btf_split_model.proofs.base_comparisons_stay.Goals as goal

pub returns : goal.returns
returns c = record { fields = fields_stay; types = comparison_stays }
