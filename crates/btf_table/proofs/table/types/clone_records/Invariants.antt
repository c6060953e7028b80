use Rattle.std.proofs.Common.{◌≡◌, take}
use Rattle.std.specs.Prelude.{map}
use Rattle.btf_model.specs.Table.{no_fallbacks}
use Rattle.btf_records.specs.BtfType.{record_of, fallback_of}
use Rattle.btf_table.proofs.table.types.clone_records.Given as goal

abbrev pub invariant-loop-record : goal.invariant-loop-record
invariant-loop-record l = record {
  records : map record_of l.copies.items ≡ map record_of (take l.record-index l.types.items);
  fallbacks : map fallback_of l.copies.items ≡ no_fallbacks (map record_of (take l.record-index l.types.items));
}
