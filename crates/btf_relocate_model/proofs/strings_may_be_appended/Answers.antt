use Rattle.btf_relocate_model.proofs.Appended as appended
use Rattle.btf_relocate_model.proofs.strings_may_be_appended.Goals as goal

pub returns : goal.returns
returns c = appended.strings_may_be_appended
