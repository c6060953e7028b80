use Rattle.btf_object.proofs.Globals.{one_more_global, has_shape, puts}
use Rattle.btf_object.proofs.finalize.kconfig.put_section.Goals as goal

pub loop-entry-preserved : goal.loop-entry-preserved
loop-entry-preserved c =
    one_more_global c.args.btf.now c.loop-entry.btf c.make_global.new.btf c.entries-entry-items.result.now c.loop-entry.entry-index c.loop-entry-test.true c.loop-entry.invariant c.make_global.ensures

pub set_type-requires : goal.set_type-requires
set_type-requires c = has_shape c.args.btf.now c.loop-entry.btf c.args.type_id c.args.section c.entries-entry-items.result.now c.loop-entry.entry-index c.requires c.loop-entry.invariant

pub returns : goal.returns
returns c =
    puts c.args.btf.now c.loop-entry.btf c.set_type.new.table c.args.type_id c.args.section c.entries-entry-items.result.now c.loop-entry.entry-index c.requires c.entries-entry-items.ensures.words c.loop-entry-test.false c.loop-entry.invariant
    c.set_type.ensures
