use Rattle.btf_object_model.proofs.Kept.{ext_stays}
use Rattle.btf_object_model.proofs.ext_stays.Goals as goal

pub returns : goal.returns
returns c = ext_stays
