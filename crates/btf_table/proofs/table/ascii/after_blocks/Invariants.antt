use Rattle.std.proofs.Common.{◌≤◌, length, ◌-◌}
use Rattle.btf_table.specs.Ascii.{BeginsAscii}
use Rattle.btf_table.proofs.table.ascii.after_blocks.Given as goal

abbrev pub invariant-loop-at : goal.invariant-loop-at
invariant-loop-at l = record {
  ascii : BeginsAscii l.bytes l.at;
  on : l.from ≤ l.at;
}

abbrev pub decreases-loop-at : goal.decreases-loop-at
decreases-loop-at l = length l.bytes - l.at
