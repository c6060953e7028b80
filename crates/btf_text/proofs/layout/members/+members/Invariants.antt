-- Each structure inside another one is written with a depth that is smaller by one.
use Rattle.std.proofs.Common.{◌≡◌, ◌+◌, ◌*◌}
use Rattle.btf_text.proofs.layout.members.+members.Given as goal

abbrev pub decreases-write_member : goal.decreases-write_member
decreases-write_member g l = 3 * l.level.now.depth + 1

abbrev pub decreases-write_nested : goal.decreases-write_nested
decreases-write_nested g l = 3 * l.level.now.depth

abbrev pub decreases-write_struct : goal.decreases-write_struct
decreases-write_struct g l = 3 * l.level.now.depth + 2

abbrev pub decreases-write_union : goal.decreases-write_union
decreases-write_union g l = 3 * l.level.now.depth + 2

abbrev pub invariant-write_struct-loop-index : goal.invariant-write_struct-loop-index
invariant-write_struct-loop-index g l = l.level.depth ≡ l.fn.level.depth

abbrev pub invariant-write_union-loop-index : goal.invariant-write_union-loop-index
invariant-write_union-loop-index g l = l.level.depth ≡ l.fn.level.depth
