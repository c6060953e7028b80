-- The places below the index have the values of their ids, and the others are unchanged.
use Rattle.std.proofs.Common.{◌≡◌, ◌<◌, ◌+◌, ℕ, List, drop, get_or}
use Rattle.btf_model.specs.Record.{Record}
use Rattle.btf_view.specs.Many.{ResolvedOrMost}
use Rattle.btf_view.specs.Places.{AreIndexed}
use Rattle.btf_view.proofs.walk.fill_resolved.Given as goal

abbrev pub invariant-loop-index : goal.invariant-loop-index
invariant-loop-index l = record {
  values : (records : List Record) → AreIndexed l.endianness l.types l.places records → (n : ℕ) → n < l.index → ResolvedOrMost records (l.first + n) (get_or l.out n 0);
  unchanged : drop l.index l.out ≡ drop l.index l.initial.out;
}
