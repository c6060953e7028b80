-- The places below the index have the forms of the items, and the others are unchanged.
use Rattle.std.proofs.Common.{◌≡◌, take, drop}
use Rattle.std.specs.Prelude.{map}
use Rattle.vbtf.proofs.lists.fill_forms.Given as goal

abbrev pub invariant-loop-index : goal.invariant-loop-index
invariant-loop-index g l = record {
  written : take l.index l.out ≡ map (g.T.Listed.form l.info) (take l.index l.items);
  unchanged : drop l.index l.out ≡ drop l.index l.initial.out;
}
