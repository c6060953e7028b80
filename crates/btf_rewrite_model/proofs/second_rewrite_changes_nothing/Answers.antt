use Rattle.btf_rewrite_model.proofs.Seconds.{changes_nothing}
use Rattle.btf_rewrite_model.proofs.second_rewrite_changes_nothing.Goals as goal

pub returns : goal.returns
returns c = changes_nothing
