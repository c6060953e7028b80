use Rattle.std.proofs.Common.{◌≡◌}
use Rattle.btf_table.proofs.NamedParams.{named_to}
use Rattle.btf_table.proofs.sanitize.func_proto.with_names.Given as goal

abbrev pub invariant-loop-index : goal.invariant-loop-index
invariant-loop-index l = l.with_names ≡ record l.proto { tail = named_to l.name_offset l.index l.param-items }
