use Rattle.std.proofs.Common.{◌≡◌, length, take}
use Rattle.std.specs.Prelude.{map}
use Rattle.std.specs.List.{flat_map}
use Rattle.btf_model.specs.Spelling.{spell}
use Rattle.btf_records.specs.BtfType.{record_of}
use Rattle.btf_table.proofs.table.types.types_len.Given as goal

abbrev pub invariant-loop-btf_type : goal.invariant-loop-btf_type
invariant-loop-btf_type l = l.len ≡ length (flat_map (spell l.fn.endianness) (map record_of (take l.btf_type-index l.types)))
