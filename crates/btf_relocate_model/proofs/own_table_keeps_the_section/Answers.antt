use Rattle.btf_relocate_model.proofs.OwnSection as own_section
use Rattle.btf_relocate_model.proofs.own_table_keeps_the_section.Goals as goal

pub returns : goal.returns
returns c = own_section.own_table_keeps_the_section
