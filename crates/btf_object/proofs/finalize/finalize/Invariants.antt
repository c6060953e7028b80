use Rattle.btf_table.specs.Layout.{layout_of}
use Rattle.btf_object.specs.Finalize.{AreNamesCached}
use Rattle.btf_object.proofs.Finalizing.{ArePartlyFinal}
use Rattle.btf_object.proofs.finalize.finalize.Given as goal

abbrev pub invariant-loop-type_id : goal.invariant-loop-type_id
invariant-loop-type_id g l =
    AreNamesCached l.btf.strings (layout_of l.layout.sections l.layout.symbols) l.names
    × ArePartlyFinal (layout_of l.layout.sections l.layout.symbols) l.initial.btf l.btf l.type_id
