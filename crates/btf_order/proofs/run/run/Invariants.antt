use Rattle.std.proofs.Common.{◌≡◌, ◌<◌, ◌+◌, true, false, length}
use Rattle.btf_order_model.specs.Uses.{Use}
use Rattle.btf_order.specs.Frame.{IsWalkFrame}
use Rattle.btf_order.specs.Progress.{KnowsOrder, Grows, is_open, left_over}
use Rattle.btf_order.specs.Uses.{KnowsUses, IsUseFrame}
use Rattle.btf_order.proofs.Stacks.{Waiting, OnStack, first}
use Rattle.btf_order.proofs.run.run.Given as goal

abbrev pub invariant-steps : goal.invariant-steps
invariant-steps l = record {
  knows : KnowsOrder l.table.records l.progress;
  grows : Grows l.fn.progress l.progress;
  frame : IsWalkFrame l.table.records l.progress.ids.items l.top;
  uses : KnowsUses l.table.records l.progress;
  use_frame : IsUseFrame l.table.records l.top;
  inside : l.top.node.id < length l.table.records;
  opened : (u : Use) → is_open l.progress u ≡ true → OnStack l.below.items l.top.node u;
  waiting : Waiting l.table.records l.progress.ids.items l.below.items l.top.node;
  bottom : first l.below.items l.top.node ≡ record { id = l.root; through_pointer = false };
}

abbrev pub decreases-steps : goal.decreases-steps
decreases-steps l = left_over l.progress + length l.below.items
