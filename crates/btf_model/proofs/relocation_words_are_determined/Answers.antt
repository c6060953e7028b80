use Rattle.btf_model.proofs.Values.{one_words}
use Rattle.btf_model.proofs.relocation_words_are_determined.Goals as goal

pub returns : goal.returns
returns c = one_words
