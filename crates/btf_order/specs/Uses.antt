-- Uses of known types, whose needs come to an end.
use Rattle.std.specs.Prelude.{◌≡◌, ◌<◌, ◌≤◌, ℕ, Bool, true, false, List, length, slice_get, Some}
use Rattle.btf_model.specs.Record.{Record}
use Rattle.btf_order_model.specs.Loops.{is_function}
use Rattle.btf_order_model.specs.Uses.{Use, uses_in, counted, NeedsUse}
use Rattle.btf_order.specs.declared.frame.Frame.{Frame}
use Rattle.btf_order.specs.declared.frame.Link.{Link}
use Rattle.btf_order.specs.declared.progress.Progress.{Progress}
use Rattle.btf_order.specs.declared.progress.Visit.{Visit}
use Rattle.btf_order.specs.declared.progress.Visit.TheVariants.{Returns, Opens}
use Rattle.btf_order.specs.declared.run.Step.{Step}
use Rattle.btf_order.specs.declared.run.Step.TheVariants.{Down, Up}
use Rattle.btf_order.specs.declared.shape.Node.{Node}
use Rattle.btf_order.specs.Frame.{Covers}
use Rattle.btf_order.specs.Progress.{is_complete_in, is_walked}
use Rattle.btf_order.specs.Shape.{use_of}

-- All needs of a use come to an end, if none leads on from a function by value.
pub data Ends (records : List Record) : Use → Type 0 where
  ends : (u : Use) → ((v : Use) → is_function records u ≡ false → NeedsUse records u v → Ends records v) → Ends records u

-- All that a type uses has a type, and its needs come to an end, behind a pointer or not.
pub record IsSound (records : List Record) (id : ℕ) : Type 0 where
  pub known : (behind : Bool) (i : ℕ) (u : Use)
      → slice_get (uses_in records (record { type = id; behind_pointer = behind })) i ≡ Some u → u.type < length records
  pub ends : (behind : Bool) → Ends records (record { type = id; behind_pointer = behind })

-- what is known of a use after the walk to it, which has a strong result or not
pub record UseIs (records : List Record) (u : Use) (is_strong : Bool) : Type 0 where
  pub known : u.type < length records
  pub ends : (v : Use) → counted records u ≡ Some v → Ends records v
  pub sound : Covers u.behind_pointer is_strong → IsSound records u.type

-- what a frame says of the uses before the next one
abbrev pub IsUseFrame : List Record → Frame → Type 0
IsUseFrame records frame =
    (i : ℕ) (u : Use) → i < frame.next → slice_get (uses_in records (use_of frame.node)) i ≡ Some u
    → UseIs records u frame.all_strong

-- what the result of the walk from a type says
pub record UseLinkIs (records : List Record) (node : Node) (link : Link) : Type 0 where
  pub ends : Ends records (use_of node)
  pub sound : Covers node.through_pointer link.is_strong → IsSound records node.id

-- what is known of the uses of the types to which the walk has come
pub record KnowsUses (records : List Record) (p : Progress) : Type 0 where
  pub complete : (id : ℕ) → is_complete_in p.marks.items id ≡ true → IsSound records id
  pub walked : (id : ℕ) → is_walked (slice_get p.walks.items id) ≡ true
      → Ends records (record { type = id; behind_pointer = true })

-- what is known of a use when the walk comes to it
abbrev pub VisitedUseIs : List Record → Node → Visit → Type 0
VisitedUseIs records node (Returns link) = UseIs records (use_of node) link.is_strong
VisitedUseIs records node (Opens next) = Unit {0}

-- The next use of a frame counts as the use of this type.
pub record IsNextUse (records : List Record) (frame : Frame) (node : Node) : Type 0 where
  pub direct : Use
  pub here : slice_get (uses_in records (use_of frame.node)) frame.next ≡ Some direct
  pub counts : counted records direct ≡ Some (use_of node)
  pub behind : node.through_pointer ≡ true → direct.behind_pointer ≡ true
  pub inside : node.id < length records

-- the walk goes down to the next use, or up after the last one
abbrev pub UseStepIs : List Record → Frame → Step → Type 0
UseStepIs records top (Down node) = IsNextUse records top node
UseStepIs records top Up = length (uses_in records (use_of top.node)) ≤ top.next
