use Rattle.std.proofs.Common.{◌≡◌, ◌-◌, length, take}
use Rattle.btf_table.specs.Changes.{put_back}
use Rattle.btf_table.proofs.table.changes.put_back_types.Given as goal

abbrev pub invariant-loop-gone : goal.invariant-loop-gone
invariant-loop-gone l =
    (put_back (take (length l.fn.old - l.gone) l.fn.old) l.types ≡ put_back l.fn.old l.fn.types) × (take (length l.fn.old - l.gone) l.old ≡ take (length l.fn.old - l.gone) l.fn.old)
