use Rattle.std.specs.HashMap.{get_by_text}
use Rattle.btf_object.proofs.Hiding.{ArePartlyHidden}
use Rattle.btf_object.proofs.finalize.hidden.hide_all.Given as goal

abbrev pub invariant-loop-type_id : goal.invariant-loop-type_id
invariant-loop-type_id g l = ArePartlyHidden (get_by_text l.hidden) l.initial.btf l.btf l.type_id
