use Rattle.btf_relocate_model.proofs.Patches.{reads_back}
use Rattle.btf_relocate_model.proofs.written_reads_back.Goals as goal

pub returns : goal.returns
returns c = reads_back
