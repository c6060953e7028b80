use Rattle.btf_object_model.proofs.Kept.{keeps_ext}
use Rattle.btf_object_model.proofs.sanitized_keeps_ext.Goals as goal

pub returns : goal.returns
returns c = keeps_ext
