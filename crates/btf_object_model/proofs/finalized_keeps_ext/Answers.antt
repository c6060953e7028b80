use Rattle.btf_object_model.proofs.Kept.{finalized_keeps_ext}
use Rattle.btf_object_model.proofs.finalized_keeps_ext.Goals as goal

pub returns : goal.returns
returns c = finalized_keeps_ext
