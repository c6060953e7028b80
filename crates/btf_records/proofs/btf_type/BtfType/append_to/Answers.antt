use Rattle.btf_records.proofs.Heads.{unknown_is_whole, always}
use Rattle.btf_records.proofs.btf_type.BtfType.append_to.Goals as goal

pub returns-in-Unknown-clause-whole : goal.returns-in-Unknown-clause-whole
returns-in-Unknown-clause-whole c = always c.push_array.result (rw c.in-Unknown.is unknown_is_whole)
