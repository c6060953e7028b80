use Rattle.std.proofs.Common.{◌≡◌, ◌-◌, length}
use Rattle.btf_layout_model.specs.Alignment.{shape_in}
use Rattle.btf_layout.specs.Frame.{IsMemberFrame}
use Rattle.btf_layout.specs.Progress.{KnowsOutcomes}
use Rattle.btf_layout.specs.Shape.{composite_view}
use Rattle.btf_layout.proofs.frame.Frame.step.Given as goal

abbrev pub invariant-loop-member : goal.invariant-loop-member
invariant-loop-member l = record {
  shape : shape_in l.table.records l.self.id ≡ composite_view l.composite;
  frame : IsMemberFrame l.table.records l.self;
  knows : KnowsOutcomes l.table.records l.known;
  id : l.self.id ≡ l.fn.self.id;
}

abbrev pub decreases-loop-member : goal.decreases-loop-member
decreases-loop-member l = length l.composite.members.now - l.self.member
