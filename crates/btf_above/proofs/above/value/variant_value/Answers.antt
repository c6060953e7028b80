use Rattle.btf_above.proofs.Finding.{handed}
use Rattle.btf_above.proofs.Values.{known, value_after, value_reported, unresolved, reported_answers, only_one}
use Rattle.btf_model.specs.Value.{Value}
use Rattle.btf_above.proofs.above.value.variant_value.Goals as goal

pub returns-in_err-id-clause-only : goal.returns-in_err-id-clause-only
returns-in_err-id-clause-only c =
    let r : _ = c.from_residual.result in
    let reported = unresolved c.args.btf.now c.args.type_id c.args.name.now c.in_err-id.field-0.0 r (handed r c.in_err-id.field-0.0 c.from_residual.ensures.1) c.in_err-id.ensures in
    only_one c.args.btf.now c.args.type_id c.args.name.now r (reported_answers (λ v. v) r (Value c.args.btf.now c.args.type_id c.args.name.now) reported)

pub returns-in_err-id-clause-no_memory : goal.returns-in_err-id-clause-no_memory
returns-in_err-id-clause-no_memory c = λ _.
    unresolved c.args.btf.now c.args.type_id c.args.name.now c.in_err-id.field-0.0 c.from_residual.result (handed c.from_residual.result c.in_err-id.field-0.0 c.from_residual.ensures.1) c.in_err-id.ensures

pub value_at-requires : goal.value_at-requires
value_at-requires c = known c.args.btf.now c.args.type_id c.in_ok-id.id c.in_ok-id.ensures

pub returns-clause-value : goal.returns-clause-value
returns-clause-value c = value_after c.args.btf.now c.args.type_id c.in_ok-id.id c.args.name.now c.value_at.result c.in_ok-id.ensures c.value_at.ensures.value

pub returns-clause-only : goal.returns-clause-only
returns-clause-only c =
    only_one c.args.btf.now c.args.type_id c.args.name.now c.value_at.result (value_after c.args.btf.now c.args.type_id c.in_ok-id.id c.args.name.now c.value_at.result c.in_ok-id.ensures c.value_at.ensures.value)

pub returns-clause-no_memory : goal.returns-clause-no_memory
returns-clause-no_memory c = value_reported c.args.btf.now c.args.type_id c.in_ok-id.id c.args.name.now c.value_at.result c.in_ok-id.ensures c.value_at.ensures.no_memory
