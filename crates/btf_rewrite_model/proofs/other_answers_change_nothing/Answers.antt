use Rattle.btf_rewrite_model.proofs.Agreeing.{same_below, same_asked, same_refused}
use Rattle.btf_rewrite_model.proofs.other_answers_change_nothing.Goals as goal

pub returns : goal.returns
returns c = record { below = same_below; asked = same_asked; refused = same_refused }
