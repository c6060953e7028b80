use Rattle.std.proofs.Common.{◌≡◌, ◌≤◌, map, take}
use Rattle.btf_records.specs.BtfType.{record_of}
use Rattle.btfobj_cli.specs.Part.{only_names}
use Rattle.btfobj_cli.proofs.part.names_of.Given as goal

abbrev pub invariant-loop-id : goal.invariant-loop-id
invariant-loop-id l = (1 ≤ l.id) × (l.names.strings ≡ l.base.strings) × (l.names.records ≡ only_names (map record_of (take l.id l.types)))
