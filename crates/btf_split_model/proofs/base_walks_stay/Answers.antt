use Rattle.btf_split_model.proofs.Staying.{resolving_stays, size_stays}
use Rattle.btf_split_model.proofs.base_walks_stay.Goals as goal

pub returns : goal.returns
returns c = record { resolving = resolving_stays; size = size_stays }
