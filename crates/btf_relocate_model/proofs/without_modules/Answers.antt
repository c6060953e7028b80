use Rattle.btf_relocate_model.proofs.Modules as modules
use Rattle.btf_relocate_model.proofs.without_modules.Goals as goal

pub returns : goal.returns
returns c = modules.without_modules
