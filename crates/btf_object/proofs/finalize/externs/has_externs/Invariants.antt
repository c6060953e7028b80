use Rattle.std.proofs.Common.{◌≡◌, false, take}
use Rattle.std.specs.List.{list_any}
use Rattle.btf_object_model.specs.Externs as model
use Rattle.btf_object.proofs.finalize.externs.has_externs.Given as goal

abbrev pub invariant-loop-type_id : goal.invariant-loop-type_id
invariant-loop-type_id l = list_any (model.has_externs l.btf) (take l.type_id l.btf.records) ≡ false
