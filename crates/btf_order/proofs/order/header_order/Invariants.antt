use Rattle.std.proofs.Common.{◌≡◌, ◌<◌, ℕ, true}
use Rattle.btf_order.specs.Progress.{KnowsOrder, NoneWaits, is_complete_in}
use Rattle.btf_order.specs.Uses.{KnowsUses}
use Rattle.btf_order.proofs.order.header_order.Given as goal

abbrev pub invariant-loop-id : goal.invariant-loop-id
invariant-loop-id l = record {
  knows : KnowsOrder l.table.records l.progress;
  uses : KnowsUses l.table.records l.progress;
  none_open : NoneWaits l.progress;
  done : (k : ℕ) → k < l.id → is_complete_in l.progress.marks.items k ≡ true;
}
