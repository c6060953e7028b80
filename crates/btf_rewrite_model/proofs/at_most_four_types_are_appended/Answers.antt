use Rattle.btf_rewrite_model.proofs.FewAdded.{few_in_a_pass, few_in_the_step, few_in_a_rewrite}
use Rattle.btf_rewrite_model.proofs.at_most_four_types_are_appended.Goals as goal

pub returns : goal.returns
returns c = record { in_a_pass = few_in_a_pass; in_the_step = few_in_the_step; in_a_rewrite = few_in_a_rewrite }
