use Rattle.btf_records.specs.BtfType.{record_of, type_kind}
use Rattle.btf_compare.proofs.FieldSteps.{found_at_ends}
use Rattle.btf_compare.proofs.fields.step_at.Goals as goal

pub returns-in-Ok-resolve : goal.returns-in-Ok-resolve
returns-in-Ok-resolve c =
    found_at_ends c.args.local.now c.args.target.now c.args.local_id c.args.target_id c.in-Ok.found.0 c.in-Ok-resolve.field-0-0 (type_kind c.in-Ok.found.1.now) (type_kind c.in-Ok-resolve.target_type.now)
    (record_of c.in-Ok.found.1.now) (record_of c.in-Ok-resolve.target_type.now) c.step_of.result c.in-Ok.ensures.0 c.in-Ok.ensures.1 c.in-Ok-resolve.ensures.0 c.in-Ok-resolve.ensures.1 c.step_of.ensures
