-- Loops of needs in which each prototype is behind a pointer.
-- Source: C11, 6.2.5 (a type is an object type or a function type), 6.7.2.1 (no member has a function type), 6.7.6.2
-- (no element has one) and 6.7.6.3 (no result has one, and a parameter of a function type becomes a pointer). So C uses
-- a function by value only in a typedef, and no type that the function uses can lead back to it.
use Rattle.std.specs.Prelude.{◌≡◌, ℕ, not, Bool, false, List, Option, Some, None, slice_get}
use Rattle.btf_model.specs.Record.{Kind, FuncProto, Record, kind_of}
use Rattle.btf_order_model.specs.Uses.{Use, NeedsUse}

-- whether a use is of a prototype, and not behind a pointer
abbrev pub is_function_by : Option Kind → Bool → Bool
is_function_by (Some FuncProto) behind = not behind
is_function_by k behind = false

abbrev pub is_function_or : Option Record → Bool → Bool
is_function_or (Some r) behind = is_function_by (kind_of r.info) behind
is_function_or None behind = false

abbrev pub is_function : List Record → Use → Bool
is_function records u = is_function_or (slice_get records u.type) u.behind_pointer

-- The declaration of the type of use a needs use b, through any number of other types, none of which is a function.
pub data NeedsThroughObjects (records : List Record) : Use → Use → Type 0 where
  directly : (a b : Use) → is_function records a ≡ false → NeedsUse records a b → NeedsThroughObjects records a b
  through : (a c b : Use) → is_function records a ≡ false → NeedsUse records a c → NeedsThroughObjects records c b
      → NeedsThroughObjects records a b

-- The type of an id needs itself, where a forward declaration is not enough and no function is used by value.
pub record IsOnObjectLoop (records : List Record) (id : ℕ) : Type 0 where
  pub of_id : Use
  pub here : of_id.type ≡ id
  pub loop : NeedsThroughObjects records of_id of_id
