use Rattle.btf_split_model.proofs.Hinting.{looks_by_names}
use Rattle.btf_split_model.proofs.looks_split_by_names.Goals as goal

pub returns : goal.returns
returns c = looks_by_names
