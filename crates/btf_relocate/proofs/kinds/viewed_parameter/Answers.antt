use Rattle.std.proofs.Common.{◌∙◌, sym, ap, arith}
use Rattle.std.specs.Option.{option_map}
use Rattle.std.proofs.lemmas.Option.{slice_get_past}
use Rattle.btf_plain.specs.declared.items.BtfParam.{BtfParam}
use Rattle.btf_view.specs.TypeRef.{record_in}
use Rattle.btf_relocate.specs.Members.{parameters_of}
use Rattle.btf_relocate.proofs.Items.{parameter_item}
use Rattle.btf_relocate.proofs.kinds.viewed_parameter.Goals as goal

pub returns-then-index-parameter_count-clause-parameter : goal.returns-then-index-parameter_count-clause-parameter
returns-then-index-parameter_count-clause-parameter c =
    sym (slice_get_past (parameters_of (record_in c.args.btf_type.now)) c.args.index (omega (arith, c.parameter_count.ensures.value, c.if-index-parameter_count.true)))

pub returns-in-Some-clause-parameter : goal.returns-in-Some-clause-parameter
returns-in-Some-clause-parameter c =
    sym (ap (option_map (λ (p : BtfParam). p.btf_type)) c.in-Some.is)
    ∙ parameter_item (record_in c.args.btf_type.now) c.args.index c.item.result (omega (arith, c.parameter_count.ensures.value, c.if-index-parameter_count.false)) c.item.ensures

pub returns-in-None-clause-parameter : goal.returns-in-None-clause-parameter
returns-in-None-clause-parameter c =
    sym (ap (option_map (λ (p : BtfParam). p.btf_type)) c.in-None.is)
    ∙ parameter_item (record_in c.args.btf_type.now) c.args.index c.item.result (omega (arith, c.parameter_count.ensures.value, c.if-index-parameter_count.false)) c.item.ensures

pub returns-in-Some-clause-small : goal.returns-in-Some-clause-small
returns-in-Some-clause-small c = omega (arith, c.parameter_count.ensures.small, c.if-index-parameter_count.false)
