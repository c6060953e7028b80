use Rattle.std.proofs.Common.{length, ◌-◌}
use Rattle.btf_view.proofs.Cuts.{Filled}
use Rattle.btf_view.proofs.indexing.fill_places.Given as goal

abbrev pub invariant-loop-at : goal.invariant-loop-at
invariant-loop-at l = Filled l.endianness l.types l.places l.count l.at

abbrev pub decreases-loop-at : goal.decreases-loop-at
decreases-loop-at l = length l.types - l.at
