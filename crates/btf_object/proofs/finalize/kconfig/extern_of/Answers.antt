use Rattle.std.proofs.Common.{ap}
use Rattle.std.specs.Option.{option_map}
use Rattle.btf_table.specs.KsymsStep.{model_entry}
use Rattle.btf_object.specs.Kconfig.{config_value_of}
use Rattle.btf_object.proofs.Externs.{value_unknown}
use Rattle.btf_object.proofs.FinalSections.{none_there}
use Rattle.btf_object.proofs.finalize.kconfig.extern_of.Goals as goal

pub returns-in_default : goal.returns-in_default
returns-in_default c =
    value_unknown c.args.btf.now (model_entry c.args.entry.now) c.in_ok-var.var.now c.btf_type.result (option_map config_value_of c.type_value.result) c.in_ok-var.ensures.some c.btf_type.ensures c.type_value.ensures
    (ap (option_map config_value_of) (none_there c.type_value.result c.in_default.not-Some))
