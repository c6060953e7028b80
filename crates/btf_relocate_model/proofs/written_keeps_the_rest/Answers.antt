use Rattle.btf_relocate_model.proofs.Patches.{keeps_the_rest}
use Rattle.btf_relocate_model.proofs.written_keeps_the_rest.Goals as goal

pub returns : goal.returns
returns c = keeps_the_rest
