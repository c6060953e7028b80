use Rattle.btf_relocate_model.proofs.OwnTable as own_table
use Rattle.btf_relocate_model.proofs.own_table_gives_the_expected.Goals as goal

pub returns : goal.returns
returns c = own_table.own_table_gives_the_expected
