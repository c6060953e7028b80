-- The types that the walk has come to, and the order of the declarations so far.
use Rattle.std.specs.Prelude.{IsTrue, ◌≡◌, ◌≢◌, ◌<◌, ◌≤◌, ◌+◌, ◌*◌, ◌⊎◌, ◌||◌, ◌&&◌, ◌==◌, not, ℕ, Bool, true, false, if◌then◌else◌, List, [], ◌∷◌, ◌++◌, length, set, slice_get, Option, Some, None}
use Rattle.std.specs.List.{Contains, sum_by}
use Rattle.btf_model.specs.Record.{Record}
use Rattle.btf_order_model.specs.Order.{IsOrdered, may_be_declared}
use Rattle.btf_order_model.specs.Uses.{Use, counted}
use Rattle.btf_order.specs.declared.progress.Mark.{Mark}
use Rattle.btf_order.specs.declared.progress.Mark.TheVariants.{New, Open, Complete}
use Rattle.btf_order.specs.declared.progress.Progress.{Progress}
use Rattle.btf_order.specs.declared.progress.Visit.{Visit}
use Rattle.btf_order.specs.declared.progress.Visit.TheVariants.{Returns, Opens}
use Rattle.btf_order.specs.declared.progress.Walks.{Walks}
use Rattle.btf_order.specs.declared.shape.Node.{Node}
use Rattle.btf_order.specs.Frame.{IsCovered, LinkIs}
use Rattle.btf_order.specs.Shape.{use_of}

-- a mark is `Complete`
abbrev pub is_complete_mark : Option Mark → Bool
is_complete_mark (Some Complete) = true
is_complete_mark mark = false

abbrev pub is_complete_in : List Mark → ℕ → Bool
is_complete_in marks id = is_complete_mark (slice_get marks id)

-- ---- open types and types from which the walk has come back

abbrev pub is_open_mark : Option Mark → Bool
is_open_mark (Some Open) = true
is_open_mark mark = false

abbrev pub is_open_walk : Option Walks → Bool
is_open_walk (Some w) = w.is_open
is_open_walk None = false

-- the type of a use waits for another type
abbrev pub is_open : Progress → Use → Bool
is_open p u =
    if u.behind_pointer then is_open_walk (slice_get p.walks.items u.type) else is_open_mark (slice_get p.marks.items u.type)

-- the walk went on from a type through a pointer, and has come back
abbrev pub is_walked : Option Walks → Bool
is_walked (Some w) = not w.is_open && (w.left == 0 || not (w.leaf == 0))
is_walked None = false

-- no type waits for another
pub record NoneWaits (p : Progress) : Type 0 where
  pub closed : (u : Use) → is_open p u ≡ false

-- no use is opened but this one
abbrev pub OpensOnly : Progress → Progress → Use → Type 0
OpensOnly before after opened = (u : Use) → is_open after u ≡ true → (is_open before u ≡ true) ⊎ (u ≡ opened)

-- no use is opened, and this one is closed
abbrev pub Closes : Progress → Progress → Use → Type 0
Closes before after closed = (u : Use) → is_open after u ≡ true → (is_open before u ≡ true) × (u ≢ closed)

-- ---- what is known

-- the order has each declared type once, after what it needs; a complete type and what it needs are declared
pub record KnowsOrder (records : List Record) (p : Progress) : Type 0 where
  pub marks : length p.marks.items ≡ length records
  pub walks : length p.walks.items ≡ length records
  pub referenced : length p.referenced.items ≡ length records
  pub listed : length p.listed.items ≡ length records
  pub complete : (id : ℕ) → is_complete_in p.marks.items id ≡ true → IsCovered records p.ids.items id
  pub ordered : IsOrdered records p.ids.items
  pub only : (id : ℕ) → Contains p.ids.items id → IsTrue (may_be_declared records id)
  pub present : (id : ℕ) → slice_get p.listed.items id ≡ Some true → Contains p.ids.items id
  pub absent : (id : ℕ) → slice_get p.listed.items id ≡ Some false → ¬ (Contains p.ids.items id)

-- complete types stay complete, and declared types stay declared
pub record Grows (before after : Progress) : Type 0 where
  pub complete : (id : ℕ) → is_complete_in before.marks.items id ≡ true → is_complete_in after.marks.items id ≡ true
  pub ids : (id : ℕ) → Contains before.ids.items id → Contains after.ids.items id

-- the walks that are left, twice
abbrev pub mark_weight : Mark → ℕ
mark_weight New = 2
mark_weight mark = 0

abbrev pub walks_weight : Walks → ℕ
walks_weight w = 2 * w.left

abbrev pub left_over : Progress → ℕ
left_over p = sum_by mark_weight p.marks.items + sum_by walks_weight p.walks.items

-- the order is the same
pub record IsSameOrder (before after : Progress) : Type 0 where
  pub ids : after.ids ≡ before.ids
  pub listed : after.listed ≡ before.listed
  pub referenced : after.referenced ≡ before.referenced

-- a type was opened
pub record IsTypeOpened (records : List Record) (before after : Progress) (from to : Node) : Type 0 where
  pub id : to.id ≡ from.id
  pub inside : to.id < length records
  pub counts : counted records (use_of from) ≡ Some (use_of to)
  pub opens : OpensOnly before after (use_of to)
  pub through_pointer : to.through_pointer ≡ true → from.through_pointer ≡ true
  pub less : left_over after + 2 ≤ left_over before

-- what the walk does at a type
abbrev pub VisitIs : List Record → Progress → Progress → Node → Visit → Type 0
VisitIs records before after node (Returns link) =
    (after ≡ before) × LinkIs records before.ids.items node link
    × (node.through_pointer ≡ false → is_complete_in before.marks.items node.id ≡ true)
VisitIs records before after node (Opens next) = IsTypeOpened records before after node next

-- a type is opened by its mark
abbrev pub IsMarked : Progress → Progress → ℕ → Visit → Type 0
IsMarked before after id (Returns link) = ⊥
IsMarked before after id (Opens node) =
    (node ≡ record { id = id; through_pointer = false }) × (slice_get before.marks.items id ≡ Some New)
    × (after.marks.items ≡ set before.marks.items id Open) × (after.walks ≡ before.walks) × IsSameOrder before after

-- a type is opened by its walks, or the walk has come back from it and goes on no more
abbrev pub IsBehind : Progress → Progress → ℕ → Visit → Type 0
IsBehind before after id (Returns link) =
    (after ≡ before) × (link.is_strong ≡ false) × (is_walked (slice_get before.walks.items id) ≡ true)
IsBehind before after id (Opens node) =
    (node ≡ record { id = id; through_pointer = true }) × (after.marks ≡ before.marks)
    × ((w : Walks) × (w.is_open ≡ true) × (after.walks.items ≡ set before.walks.items id w))
    × (sum_by walks_weight after.walks.items + 2 ≤ sum_by walks_weight before.walks.items) × IsSameOrder before after

-- a type is appended to the order, if it is not there
abbrev pub IsListed : Progress → Progress → ℕ → Type 0
IsListed before after id =
    ((slice_get before.listed.items id ≡ Some true) × (after ≡ before))
    ⊎ ((slice_get before.listed.items id ≡ Some false) × (after.ids.items ≡ before.ids.items ++ id ∷ [])
    × (after.listed.items ≡ set before.listed.items id true) × (after.marks ≡ before.marks) × (after.walks ≡ before.walks)
    × (after.referenced ≡ before.referenced))

-- the walks to a type that is open behind a pointer are open no more
abbrev pub LeavesWalks : Progress → Progress → Node → Type 0
LeavesWalks before after node =
    (node.through_pointer ≡ false → after.walks ≡ before.walks)
    × (node.through_pointer ≡ true
    → (w : Walks) × (w.is_open ≡ false) × (after.walks.items ≡ set before.walks.items node.id w))

-- a type is open no more, and complete if its result is settled
pub record HasLeft (before after : Progress) (id : ℕ) (is_settled : Bool) : Type 0 where
  pub marks : after.marks.items ≡ (if is_settled then set before.marks.items id Complete else before.marks.items)
  pub walks : length after.walks.items ≡ length before.walks.items
  pub weight : sum_by walks_weight after.walks.items ≡ sum_by walks_weight before.walks.items
  pub order : IsSameOrder before after
