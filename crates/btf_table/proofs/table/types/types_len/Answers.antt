use Rattle.std.proofs.Common.{◌+◌, arith}
use Rattle.btf_table.proofs.Joining.{spelled_more, spelled_front}
use Rattle.btf_table.proofs.table.types.types_len.Goals as goal

pub overflow_add-len : goal.overflow_add-len
overflow_add-len c =
    let xs = c.args.types.now in
    let i = c.loop-btf_type.btf_type-index in
    let more = spelled_more c.args.endianness xs i c.btf_type-item.result c.type_info_size-len.result c.loop-btf_type-test.true c.btf_type-item.is c.type_info_size-len.ensures.len in
    omega (arith, c.loop-btf_type.invariant, more, spelled_front c.args.endianness xs (i + 1), c.requires)

pub loop-btf_type-preserved : goal.loop-btf_type-preserved
loop-btf_type-preserved c =
    let more = spelled_more c.args.endianness c.args.types.now c.loop-btf_type.btf_type-index c.btf_type-item.result c.type_info_size-len.result c.loop-btf_type-test.true c.btf_type-item.is c.type_info_size-len.ensures.len in
    omega (arith, c.loop-btf_type.invariant, more)
