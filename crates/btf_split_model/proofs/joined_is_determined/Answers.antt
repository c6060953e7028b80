use Rattle.btf_split_model.proofs.Joining.{one_joined, one_refusal, not_both}
use Rattle.btf_split_model.proofs.joined_is_determined.Goals as goal

pub returns : goal.returns
returns c = record { one_table = one_joined; one_refusal = one_refusal; not_both = not_both }
