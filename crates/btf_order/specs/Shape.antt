-- The types that a type refers to, in the order of the walk.
use Rattle.std.specs.Prelude.{◌≡◌, ◌≤◌, ◌⊎◌, ℕ, Bool, true, false, List, length, slice_get, Option, Some, None}
use Rattle.btf_model.specs.Record.{Record, FuncProto, kind_of}
use Rattle.btf_order_model.specs.Order.{value_types, is_declared_by}
use Rattle.btf_order_model.specs.Uses.{Use, counted_by}
use Rattle.btf_plain.specs.declared.items.BtfMember.{BtfMember}
use Rattle.btf_plain.specs.declared.items.BtfParam.{BtfParam}
use Rattle.btf_order.specs.declared.shape.Node.{Node}
use Rattle.btf_order.specs.declared.shape.Passing.{Passing}
use Rattle.btf_order.specs.declared.shape.Passing.TheVariants.{AsByValue, Forward, Behind}
use Rattle.btf_order.specs.declared.shape.Shape.{Shape}
use Rattle.btf_order.specs.declared.shape.Shape.TheVariants.{Prototype}

-- the type of a member
abbrev pub member_type : BtfMember → ℕ
member_type m = m.btf_type

-- the type of a parameter
abbrev pub param_type : BtfParam → ℕ
param_type p = p.btf_type

-- a type has at most this many types to which it refers, less one
abbrev pub last_index : ℕ
last_index = 65536

-- The type to which the walk goes from a type that has these types by value: it is the one at the index, and it is behind
-- a pointer only if the type itself is. A type that has none by value may go to any type.
abbrev pub Refers : List ℕ → Bool → ℕ → Node → Type 0
Refers types through_pointer index node =
    (index ≤ last_index)
    × ((length types ≡ 0)
    ⊎ ((slice_get types index ≡ Some node.id) × (node.through_pointer ≡ true → through_pointer ≡ true)))

-- the type at an index, if there is one
abbrev pub ChildIs : List ℕ → Bool → ℕ → Option Node → Type 0
ChildIs types through_pointer index (Some node) = Refers types through_pointer index node
ChildIs types through_pointer index None = length types ≤ index

-- the use of a type to which the walk comes
abbrev pub use_of : Node → Use
use_of node = record { type = node.id; behind_pointer = node.through_pointer }

-- how the walk passes a type is how a use of it counts
abbrev pub CountsAs : Record → Bool → Passing → Type 0
CountsAs r behind Forward = (id : ℕ) → counted_by (kind_of r.info) r (record { type = id; behind_pointer = behind }) ≡ None
CountsAs r behind AsByValue =
    (id : ℕ) → counted_by (kind_of r.info) r (record { type = id; behind_pointer = behind })
    ≡ Some (record { type = id; behind_pointer = false })
CountsAs r behind Behind =
    (id : ℕ) → counted_by (kind_of r.info) r (record { type = id; behind_pointer = behind })
    ≡ Some (record { type = id; behind_pointer = true })

-- a prototype has no type by value, and is not declared
abbrev pub IsShape : Record → Shape → Type 0
IsShape r Prototype =
    (length (value_types r) ≡ 0) × (is_declared_by (kind_of r.info) r ≡ false) × (kind_of r.info ≡ Some FuncProto)
IsShape r shape = Unit {0}

-- only behind a pointer a type is passed otherwise than by value
abbrev pub IsPassing : Bool → Passing → Type 0
IsPassing through_pointer AsByValue = Unit {0}
IsPassing through_pointer passing = through_pointer ≡ true
