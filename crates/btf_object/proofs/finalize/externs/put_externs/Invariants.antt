use Rattle.std.proofs.Common.{◌≡◌}
use Rattle.btf_object_model.specs.Externs.{with_old_sections}
use Rattle.btf_object.proofs.finalize.externs.put_externs.Given as goal

abbrev pub invariant-loop-type_id : goal.invariant-loop-type_id
invariant-loop-type_id l = l.btf ≡ with_old_sections l.old l.type_id l.initial.btf
