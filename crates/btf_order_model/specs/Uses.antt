-- The types that another type uses, and loops of uses that C cannot write.
-- Source: C11, 6.2.3 and 6.7.2.3 (only a tag can be declared before its type is complete, so a STRUCT or UNION without a
-- name, a typedef and a prototype cannot), and 6.7.2.1 (a member has a complete type).
use Rattle.std.specs.Prelude.{◌≡◌, ℕ, ◌==◌, ◌&&◌, not, Bool, true, false, if◌then◌else◌, List, [], ◌∷◌, map, Option, Some, None, slice_get}
use Rattle.std.specs.List.{Contains}
use Rattle.btf_model.specs.Compat.{parameter_types}
use Rattle.btf_model.specs.Fields.{element_type}
use Rattle.btf_model.specs.Record.{Kind, Ptr, Array, Struct, Union, Typedef, Volatile, Const, Restrict, FuncProto, TypeTag, Record, kind_of}
use Rattle.btf_order_model.specs.Order.{member_types}

-- A use of a type: its id, and whether it is only used behind a pointer.
pub record Use : Type 0 where
  pub type : ℕ
  pub behind_pointer : Bool

-- uses of these types, all of them behind a pointer or none
abbrev pub uses_of : List ℕ → Bool → List Use
uses_of types behind = map (λ type. record { type = type; behind_pointer = behind }) types

-- The uses of a record that is itself used behind a pointer or not: a typedef, a modifier and a prototype pass on how they
-- are used; a member or an element is used by value.
abbrev pub uses_by : Option Kind → Record → Bool → List Use
uses_by (Some Ptr) r behind = uses_of (r.third ∷ []) true
uses_by (Some Array) r behind = uses_of (element_type r ∷ []) false
uses_by (Some Struct) r behind = uses_of (member_types r.tail) false
uses_by (Some Union) r behind = uses_of (member_types r.tail) false
uses_by (Some Typedef) r behind = uses_of (r.third ∷ []) behind
uses_by (Some Volatile) r behind = uses_of (r.third ∷ []) behind
uses_by (Some Const) r behind = uses_of (r.third ∷ []) behind
uses_by (Some Restrict) r behind = uses_of (r.third ∷ []) behind
uses_by (Some TypeTag) r behind = uses_of (r.third ∷ []) behind
uses_by (Some FuncProto) r behind = uses_of (r.third ∷ parameter_types r.tail) behind
uses_by k r behind = []

abbrev pub uses_or : Option Record → Bool → List Use
uses_or (Some r) behind = uses_by (kind_of r.info) r behind
uses_or None behind = []

-- the uses of the type of a use
abbrev pub uses_in : List Record → Use → List Use
uses_in records u = uses_or (slice_get records u.type) u.behind_pointer

-- How a use counts. Behind a pointer a STRUCT or UNION with a name does not, because a forward declaration is enough; a
-- typedef, a modifier or a prototype counts as what it uses behind the pointer; and other types as without the pointer.
abbrev pub counted_by : Option Kind → Record → Use → Option Use
counted_by (Some Struct) r u = if u.behind_pointer && not (r.name == 0) then None else Some (record u { behind_pointer = false })
counted_by (Some Union) r u = if u.behind_pointer && not (r.name == 0) then None else Some (record u { behind_pointer = false })
counted_by (Some Typedef) r u = Some u
counted_by (Some Volatile) r u = Some u
counted_by (Some Const) r u = Some u
counted_by (Some Restrict) r u = Some u
counted_by (Some TypeTag) r u = Some u
counted_by (Some FuncProto) r u = Some u
counted_by k r u = Some (record u { behind_pointer = false })

abbrev pub counted_or : Option Record → Use → Option Use
counted_or (Some r) u = counted_by (kind_of r.info) r u
counted_or None u = None

abbrev pub counted : List Record → Use → Option Use
counted records u = counted_or (slice_get records u.type) u

-- The declaration of the type of use a needs use b.
pub record NeedsUse (records : List Record) (a b : Use) : Type 0 where
  pub direct : Use
  pub used : Contains (uses_in records a) direct
  pub counts : counted records direct ≡ Some b

-- the same through any number of other types
pub data NeedsThrough (records : List Record) : Use → Use → Type 0 where
  directly : (a b : Use) → NeedsUse records a b → NeedsThrough records a b
  through : (a c b : Use) → NeedsUse records a c → NeedsThrough records c b → NeedsThrough records a b

-- The type of an id needs itself, where a forward declaration is not enough.
pub record IsOnLoop (records : List Record) (id : ℕ) : Type 0 where
  pub of_id : Use
  pub here : of_id.type ≡ id
  pub loop : NeedsThrough records of_id of_id

-- A type of the table uses an id that has no type.
pub record IsUsedAndUnknown (records : List Record) (id : ℕ) : Type 0 where
  pub user : Use
  pub behind_pointer : Bool
  pub used : Contains (uses_in records user) (record { type = id; behind_pointer = behind_pointer })
  pub unknown : slice_get records id ≡ None
