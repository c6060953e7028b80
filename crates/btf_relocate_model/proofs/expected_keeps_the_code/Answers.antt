use Rattle.btf_relocate_model.proofs.OwnTable as own_table
use Rattle.btf_relocate_model.proofs.expected_keeps_the_code.Goals as goal

pub returns : goal.returns
returns c = own_table.expected_keeps_the_code
