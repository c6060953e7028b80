use Rattle.std.proofs.Common.{◌≡◌, map, take}
use Rattle.btf_records.specs.BtfType.{record_of}
use Rattle.btf_object.specs.Finalize.{data_sec_size}
use Rattle.btf_object.proofs.finalize.sized.data_sec_sizes.Given as goal

abbrev pub invariant-loop-btf_type : goal.invariant-loop-btf_type
invariant-loop-btf_type l = l.sizes.items ≡ map data_sec_size (map record_of (take l.btf_type-index l.types))
