use Rattle.btf_model.proofs.Texts.{name_has_one}
use Rattle.btf_model.proofs.name_finds_one.Goals as goal

pub returns : goal.returns
returns c = λ strings records k name a b p q. name_has_one strings records k name a b p q
