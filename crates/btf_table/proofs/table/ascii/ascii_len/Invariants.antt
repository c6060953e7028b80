use Rattle.std.proofs.Common.{length, ◌-◌}
use Rattle.btf_table.specs.Ascii.{BeginsAscii}
use Rattle.btf_table.proofs.table.ascii.ascii_len.Given as goal

abbrev pub invariant-loop-at : goal.invariant-loop-at
invariant-loop-at l = BeginsAscii l.bytes l.at

abbrev pub decreases-loop-at : goal.decreases-loop-at
decreases-loop-at l = length l.bytes - l.at
