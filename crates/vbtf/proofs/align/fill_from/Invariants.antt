-- The places below the index have the alignments of their ids, and the others are unchanged.
use Rattle.std.proofs.Common.{◌≡◌, ◌<◌, ◌+◌, ℕ, drop, get_or}
use Rattle.vbtf.specs.Aligning.{AlignmentOrNone}
use Rattle.vbtf.proofs.align.fill_from.Given as goal

abbrev pub invariant-loop-index : goal.invariant-loop-index
invariant-loop-index l = record {
  alignments : (n : ℕ) → n < l.index → AlignmentOrNone l.table.records (l.first + n) (get_or l.out n 0);
  unchanged : drop l.index l.out ≡ drop l.index l.initial.out;
}
