use Rattle.std.proofs.Common.{arith}
use Rattle.btf_view.specs.TypeRef.{record_in}
use Rattle.btf_relocate.proofs.Definitions.{prototypes_differ, prototypes_same}
use Rattle.btf_relocate.proofs.types.steps.prototypes.Goals as goal

pub returns-then-parameter_count : goal.returns-then-parameter_count
returns-then-parameter_count c =
    prototypes_differ c.args.is_pointee (record_in c.args.one.now) (record_in c.args.other.now) c.parameter_count.result c.parameter_count-2.result c.parameter_count.ensures.value c.parameter_count-2.ensures.value
    c.requires.one_is c.requires.other_is c.if-parameter_count.true

pub returns : goal.returns
returns c =
    prototypes_same c.args.is_pointee (record_in c.args.one.now) (record_in c.args.other.now) c.parameter_count.result c.parameter_count-2.result c.parameter_count.ensures.value c.parameter_count-2.ensures.value
    c.requires.one_is c.requires.other_is c.if-parameter_count.false c.pair.result (grind arith)
