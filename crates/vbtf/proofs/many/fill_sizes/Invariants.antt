-- The places below the index have the sizes for their ids, and the others are unchanged.
use Rattle.std.proofs.Common.{◌≡◌, ◌<◌, ◌+◌, ℕ, drop, get_or}
use Rattle.btf_view.specs.Many.{SizeOrMost}
use Rattle.vbtf.proofs.many.fill_sizes.Given as goal

abbrev pub invariant-loop-index : goal.invariant-loop-index
invariant-loop-index l = record {
  sizes : (n : ℕ) → n < l.index → SizeOrMost l.table.records (l.first + n) (get_or l.out n 0);
  unchanged : drop l.index l.out ≡ drop l.index l.initial.out;
}
