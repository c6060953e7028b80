use Rattle.btf_relocate_model.proofs.Existence as existence
use Rattle.btf_relocate_model.proofs.existence_agrees.Goals as goal

pub returns : goal.returns
returns c = existence.existence_agrees
