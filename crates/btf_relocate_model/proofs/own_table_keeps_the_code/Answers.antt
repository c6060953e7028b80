use Rattle.btf_relocate_model.proofs.OwnTable as own_table
use Rattle.btf_relocate_model.proofs.own_table_keeps_the_code.Goals as goal

pub returns : goal.returns
returns c = own_table.own_table_keeps_the_code
