-- The places below the index have what their ids resolve to, and the others are unchanged.
use Rattle.std.proofs.Common.{◌≡◌, ◌<◌, ◌+◌, ℕ, drop, get_or}
use Rattle.btf_view.specs.Many.{ResolvedOrMost}
use Rattle.vbtf.proofs.many.fill_resolved.Given as goal

abbrev pub invariant-loop-index : goal.invariant-loop-index
invariant-loop-index l = record {
  resolved : (n : ℕ) → n < l.index → ResolvedOrMost l.table.records (l.first + n) (get_or l.out n 0);
  unchanged : drop l.index l.out ≡ drop l.index l.initial.out;
}
