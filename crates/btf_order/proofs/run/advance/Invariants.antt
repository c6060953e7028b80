use Rattle.std.proofs.Common.{◌≡◌, ◌-◌}
use Rattle.btf_order.specs.Frame.{IsWalkFrame}
use Rattle.btf_order.specs.Uses.{IsUseFrame}
use Rattle.btf_order.proofs.run.advance.Given as goal

abbrev pub invariant-loop-node : goal.invariant-loop-node
invariant-loop-node l = record {
  same : l.progress ≡ l.fn.progress;
  frame : IsWalkFrame l.table.records l.progress.ids.items l.top;
  use_frame : IsUseFrame l.table.records l.top;
  node : l.top.node ≡ l.fn.top.node;
}

abbrev pub decreases-loop-node : goal.decreases-loop-node
decreases-loop-node l = 65537 - l.top.next
