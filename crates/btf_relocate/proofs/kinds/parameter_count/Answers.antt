use Rattle.std.proofs.Common.{◌∙◌}
use Rattle.btf_model.specs.Record.{kind_of, vlen}
use Rattle.btf_view.specs.TypeRef.{record_in}
use Rattle.btf_relocate.proofs.Items.{parameters_counted, no_parameters}
use Rattle.btf_relocate.proofs.kinds.parameter_count.Goals as goal

pub returns-in-FuncProto-clause-value : goal.returns-in-FuncProto-clause-value
returns-in-FuncProto-clause-value c =
    let r = record_in c.args.btf_type.now in
    c.vlen.ensures.value ∙ parameters_counted c.kind.result (kind_of r.info) (vlen r.info) r.tail c.kind.ensures.info c.in-FuncProto.is c.kind.ensures.tail

pub returns-in_default-clause-value : goal.returns-in_default-clause-value
returns-in_default-clause-value c =
    let r = record_in c.args.btf_type.now in
    no_parameters c.kind.result (kind_of r.info) r.tail c.kind.ensures.info c.in_default.not-FuncProto
