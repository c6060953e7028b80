use Rattle.btf_table.specs.Layout.{layout_of}
use Rattle.btf_object.proofs.Finalizing.{section_final}
use Rattle.btf_object.proofs.finalize.finalize_type.Goals as goal

pub returns-clause-made : goal.returns-clause-made
returns-clause-made g c =
    section_final (layout_of c.args.layout.now.sections c.args.layout.now.symbols) c.args.btf.now c.set_type.new.table c.args.type_id c.in-Ok-DataSec.field-0.now c.in-Ok-DataSec.data_sec c.in_ok-section.section c.requires.known
    c.in-Ok-DataSec.field-0-is c.in-Ok-DataSec.ensures c.in_ok-section.ensures.made c.in_ok-section.ensures.kind c.set_type.ensures
