use Rattle.btf_object_model.proofs.Appended.{texts_stay}
use Rattle.btf_object_model.proofs.texts_stay.Goals as goal

pub returns : goal.returns
returns c = texts_stay
