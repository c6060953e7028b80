use Rattle.btf_model.proofs.Usual.{writes_back}
use Rattle.btf_model.proofs.parsed_writes_back.Goals as goal

pub returns : goal.returns
returns c = writes_back
