use Rattle.btf_elf_model.proofs.Determined.{one_object, one_error, not_both, one_of_both}
use Rattle.btf_elf_model.proofs.object_is_determined.Goals as goal

pub returns : goal.returns
returns c = record {
  one_object = one_object;
  one_error = one_error;
  not_both = not_both;
  one_of_both = one_of_both;
}
