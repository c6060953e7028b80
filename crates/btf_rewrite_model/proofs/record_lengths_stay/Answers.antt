use Rattle.btf_rewrite_model.proofs.Lengths.{lengths_stay, filled_len}
use Rattle.btf_rewrite_model.proofs.record_lengths_stay.Goals as goal

pub returns : goal.returns
returns c = record { others = lengths_stay; filled = filled_len }
