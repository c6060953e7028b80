use Rattle.btf_table.specs.Layout.{layout_of}
use Rattle.btf_object.proofs.Finalizing.{none_final, one_final}
use Rattle.btf_object.proofs.finalize.finalize.Goals as goal

pub loop-type_id-init : goal.loop-type_id-init
loop-type_id-init g c = (
  c.new-names.ensures c.args.btf.now.strings (layout_of c.args.layout.now.sections c.args.layout.now.symbols),
  none_final (layout_of c.args.layout.now.sections c.args.layout.now.symbols) c.args.btf.now,
)

pub loop-type_id-preserved : goal.loop-type_id-preserved
loop-type_id-preserved g c = (
  c.in_ok-finalize_type.ensures.read,
  one_final (layout_of c.args.layout.now.sections c.args.layout.now.symbols) c.args.btf.now c.loop-type_id.btf c.finalize_type.new.btf c.loop-type_id.type_id c.loop-type_id.invariant.1 c.in_ok-finalize_type.ensures.made,
)
