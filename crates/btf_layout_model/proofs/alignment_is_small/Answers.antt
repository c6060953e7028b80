use Rattle.btf_layout_model.proofs.Small.{small_alignment}
use Rattle.btf_layout_model.proofs.alignment_is_small.Goals as goal

pub returns : goal.returns
returns c = record {
  positive = λ records id n h. (small_alignment records id n h).0;
  at_most = λ records id n h. (small_alignment records id n h).1;
}
