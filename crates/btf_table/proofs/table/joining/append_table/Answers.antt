use Rattle.std.proofs.Common.{refl}
use Rattle.btf_table.proofs.Joining.{are_of}
use Rattle.btf_table.proofs.table.joining.append_table.Goals as goal

pub apply-requires : goal.apply-requires
apply-requires c =
    are_of c.args.table.now c.args.own c.own.inside _ c.own.view_is c.new.ensures.items refl c.remove.ensures.by_index.2 c.own.invariant c.allocator-alloc.ensures c.in_ok-type_len.ensures.0 c.in_ok-type_len.ensures.1
