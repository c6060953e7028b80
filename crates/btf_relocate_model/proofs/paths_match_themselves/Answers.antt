use Rattle.btf_relocate_model.proofs.OwnPaths as own_paths
use Rattle.btf_relocate_model.proofs.paths_match_themselves.Goals as goal

pub returns : goal.returns
returns c = own_paths.paths_match_themselves
