use Rattle.std.proofs.Common.{◌≡◌, [], None}
use Rattle.btf_rewrite_model.specs.Checks.{first_fault, have_room}
use Rattle.btf_table.specs.Adding.{next_string_offset, Adds}
use Rattle.btf_table.proofs.Prototypes.{texts_to, named_to}
use Rattle.btf_table.proofs.sanitize.func_proto.with_param_names.Given as goal

abbrev pub invariant-loop-index : goal.invariant-loop-index
invariant-loop-index l =
    (first_fault (have_room (next_string_offset l.btf l.fn.changes) (texts_to l.index l.param-items)) ≡ None)
    × Adds l.btf l.fn.changes l.changes (texts_to l.index l.param-items) []
    × (l.with_names ≡ record l.proto { tail = named_to (next_string_offset l.btf l.fn.changes) l.index l.param-items })
