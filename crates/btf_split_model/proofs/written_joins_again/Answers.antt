use Rattle.btf_split_model.proofs.Whole.{bytes_from_all}
use Rattle.btf_split_model.proofs.Joining.{extending_joins, parsed_joins}
use Rattle.btf_split_model.proofs.written_joins_again.Goals as goal

pub returns : goal.returns
returns c = record {
  extending = extending_joins;
  parsed = λ order base bytes t fits. parsed_joins order base bytes t (bytes_from_all bytes fits);
}
