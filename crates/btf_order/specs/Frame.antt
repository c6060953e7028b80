-- A type whose declaration waits for the types that it has by value.
use Rattle.std.specs.Prelude.{◌≡◌, ◌<◌, ◌⊎◌, ◌||◌, not, ℕ, Bool, true, false, List, IsTrue, slice_get, Some}
use Rattle.std.specs.List.{Contains}
use Rattle.btf_model.specs.Record.{Record}
use Rattle.btf_order_model.specs.Order.{value_types_in, is_declared, NeedsComplete}
use Rattle.btf_order.specs.declared.frame.Frame.{Frame}
use Rattle.btf_order.specs.declared.frame.Link.{Link}
use Rattle.btf_order.specs.declared.shape.Node.{Node}

-- The type of an id is declared, if it has to be, and so are the types that its declaration needs.
abbrev pub IsCovered : List Record → List ℕ → ℕ → Type 0
IsCovered records ids a =
    (IsTrue (is_declared records a) → Contains ids a) × ((b : ℕ) → NeedsComplete records a b → Contains ids b)

-- the first types of a list are covered
abbrev pub AreCovered : List Record → List ℕ → List ℕ → ℕ → Type 0
AreCovered records ids types count = (i b : ℕ) → i < count → slice_get types i ≡ Some b → IsCovered records ids b

-- A walk through no pointer, or with this result, covers what it comes to.
abbrev pub Covers : Bool → Bool → Type 0
Covers through_pointer is_strong = (through_pointer ≡ false) ⊎ (is_strong ≡ true)

-- what the result of the walk to a type says
abbrev pub LinkIs : List Record → List ℕ → Node → Link → Type 0
LinkIs records ids node link = Covers node.through_pointer link.is_strong → IsCovered records ids node.id

-- what a frame says of the types before the next one
abbrev pub IsWalkFrame : List Record → List ℕ → Frame → Type 0
IsWalkFrame records ids frame =
    Covers frame.node.through_pointer frame.all_strong
    → AreCovered records ids (value_types_in records frame.node.id) frame.next

-- each type that the type has by value is declared
abbrev pub is_done : Frame → Bool
is_done frame = not frame.node.through_pointer || frame.all_strong
