use Rattle.std.proofs.Common.{◌≡◌, take, drop}
use Rattle.btf_table.specs.Changes.{put_all, before_changes}
use Rattle.btf_table.proofs.table.changes.swap_types.Given as goal

abbrev pub invariant-loop-at : goal.invariant-loop-at
invariant-loop-at l = (l.types ≡ put_all (take l.at l.fn.changed) l.fn.types) × (drop l.at l.changed ≡ drop l.at l.fn.changed) × (take l.at l.changed ≡ before_changes (take l.at l.fn.changed) l.fn.types)
