-- Where the walk goes from a type.
use Rattle.std.specs.Prelude.{◌≡◌, ◌<◌, ◌≤◌, ◌+◌, List, length}
use Rattle.btf_model.specs.Record.{Record}
use Rattle.btf_order_model.specs.Order.{value_types_in}
use Rattle.btf_order.specs.declared.frame.Frame.{Frame}
use Rattle.btf_order.specs.declared.progress.Progress.{Progress}
use Rattle.btf_order.specs.declared.run.Step.{Step}
use Rattle.btf_order.specs.declared.run.Step.TheVariants.{Down, Up}
use Rattle.btf_order_model.specs.Uses.{NeedsUse}
use Rattle.btf_order.specs.Progress.{left_over, OpensOnly}
use Rattle.btf_order.specs.Shape.{Refers, use_of}

-- down to a type that was opened, or up after the last type
abbrev pub WalkStepIs : List Record → Progress → Progress → Frame → Step → Type 0
WalkStepIs records before after top (Down node) =
    Refers (value_types_in records top.node.id) top.node.through_pointer top.next node
    × (left_over after + 2 ≤ left_over before)
    × NeedsUse records (use_of top.node) (use_of node) × OpensOnly before after (use_of node) × (node.id < length records)
WalkStepIs records before after top Up =
    (length (value_types_in records top.node.id) ≤ top.next) × (left_over after ≤ left_over before) × (after ≡ before)
