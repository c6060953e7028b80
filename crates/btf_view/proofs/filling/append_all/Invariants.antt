use Rattle.std.proofs.Common.{◌≤◌, List, length}
use Rattle.std.specs.Prelude.{map}
use Rattle.btf_model.specs.Record.{Record}
use Rattle.btf_view.specs.Items.{members_or_none}
use Rattle.btf_view.specs.Places.{ArePlaces}
use Rattle.btf_view.proofs.Appended.{AreAppended}
use Rattle.btf_view.proofs.Fills.{Written}
use Rattle.btf_view.proofs.filling.append_all.Given as goal

abbrev pub invariant-loop-index : goal.invariant-loop-index
invariant-loop-index l =
    (l.written ≤ length l.out)
    × ((rs : List Record) → ArePlaces l.endianness l.types l.places rs → Written (map (λ r. length (members_or_none r)) rs) l.initial.counts l.counts l.index × AreAppended rs l.initial.out l.out l.index l.written)
