use Rattle.btf_layout_model.proofs.Stays.{alignment_stays}
use Rattle.btf_layout_model.proofs.alignment_stays.Goals as goal

pub returns : goal.returns
returns c = alignment_stays
