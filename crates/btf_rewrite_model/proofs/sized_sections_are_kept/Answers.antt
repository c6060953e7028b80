use Rattle.btf_rewrite_model.proofs.KeepSized.{sized_sections_are_kept}
use Rattle.btf_rewrite_model.proofs.sized_sections_are_kept.Goals as goal

pub returns : goal.returns
returns c = sized_sections_are_kept
