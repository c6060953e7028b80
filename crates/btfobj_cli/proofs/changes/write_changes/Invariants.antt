use Rattle.std.proofs.Common.{◌≡◌, map, take}
use Rattle.btf_records.specs.BtfType.{record_of}
use Rattle.btfobj_cli.specs.Changes.{has_changed}
use Rattle.btfobj_cli.proofs.changes.write_changes.Given as goal

abbrev pub invariant-loop-id : goal.invariant-loop-id
invariant-loop-id g l = l.changes ≡ has_changed (map record_of l.old_types) (map record_of (take l.id-counter l.new_types))
