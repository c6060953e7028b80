use Rattle.btf_object.proofs.Externs.{if_none}
use Rattle.btf_object.proofs.FinalSections.{none_there}
use Rattle.btf_object.proofs.Globals.{not_global, one_global, global_made}
use Rattle.btf_object.proofs.finalize.kconfig.make_global.Goals as goal

pub returns-in_default : goal.returns-in_default
returns-in_default c = not_global c.args.btf.now c.args.type_id (if_none c.variable.result _ (none_there c.variable.result c.in_default.not-Some) c.variable.ensures.none)

pub returns : goal.returns
returns c =
    one_global c.args.btf.now c.set_type.new.table c.args.type_id c.in-Some.var.now c.with_info-global.result c.in-Some.ensures.some
    (global_made c.in-Some.var.now c.name_offset.result c.btf_type.result c.info.result c.new-global.result c.with_info-global.result c.name_offset.ensures.value c.btf_type.ensures c.info.ensures.value c.new-global.ensures c.with_info-global.ensures)
    c.set_type.ensures
