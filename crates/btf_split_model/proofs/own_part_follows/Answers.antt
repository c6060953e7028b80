use Rattle.btf_split_model.proofs.Staying.{own_types, own_texts}
use Rattle.btf_split_model.proofs.own_part_follows.Goals as goal

pub returns : goal.returns
returns c = record { types = own_types; texts = own_texts }
