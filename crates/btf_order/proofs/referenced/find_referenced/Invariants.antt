use Rattle.std.proofs.Common.{◌≡◌, length}
use Rattle.btf_order.proofs.referenced.find_referenced.Given as goal

abbrev pub invariant-loop-btf_type : goal.invariant-loop-btf_type
invariant-loop-btf_type l = length l.flags.items ≡ length l.table.records
