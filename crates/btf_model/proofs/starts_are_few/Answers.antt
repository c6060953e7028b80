use Rattle.btf_model.proofs.KnownStarts.{plain_known, firsts_distinct, firsts_few, all_known}
use Rattle.btf_model.proofs.starts_are_few.Goals as goal

pub returns : goal.returns
returns c = record {
  known = λ local target above p answer starts h. all_known local target starts (plain_known local target above p answer starts h);
  once = firsts_distinct;
  few = λ local target above p answer starts h. firsts_few local target starts (plain_known local target above p answer starts h);
}
