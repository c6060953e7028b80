-- The errors of the walk.
use Rattle.std.specs.Prelude.{◌≡◌, Bool, true, List, None, Some, slice_get}
use Rattle.std.specs.List.{Contains}
use Rattle.btf_model.specs.Record.{Record}
use Rattle.btf_order_model.specs.Uses.{Use, uses_in, counted, NeedsUse, IsOnLoop, IsUsedAndUnknown}
use Rattle.btf_plain.specs.declared.error.BtfError.{BtfError}
use Rattle.btf_plain.specs.declared.error.BtfError.TheVariants.{UnknownBtfType, MaximumTypeDepthReached, OutOfMemory}
use Rattle.btf_order.specs.declared.progress.Progress.{Progress}
use Rattle.btf_order.specs.Progress.{is_open}

-- An allocation failed; a type uses an id that has no type; or a type needs itself, beyond what a forward declaration does.
abbrev pub IsOrderError : List Record → BtfError → Type 0
IsOrderError records OutOfMemory = Unit {0}
IsOrderError records (UnknownBtfType id) = IsUsedAndUnknown records id
IsOrderError records (MaximumTypeDepthReached id) = IsOnLoop records id
IsOrderError records e = ⊥

-- An error when the walk comes to a use: its id has no type, or what the use counts as is open.
abbrev pub IsVisitError : List Record → Progress → Use → BtfError → Type 0
IsVisitError records p visited OutOfMemory = Unit {0}
IsVisitError records p visited (UnknownBtfType id) = (id ≡ visited.type) × (slice_get records id ≡ None)
IsVisitError records p visited (MaximumTypeDepthReached id) =
    (u : Use) × (counted records visited ≡ Some u) × (u.type ≡ id) × (is_open p u ≡ true)
IsVisitError records p visited e = ⊥

-- An error when the walk goes over the uses of a use: one of them has no type, or one that is needed is open.
abbrev pub IsStepError : List Record → Progress → Use → BtfError → Type 0
IsStepError records p user OutOfMemory = Unit {0}
IsStepError records p user (UnknownBtfType id) =
    (behind : Bool) × Contains (uses_in records user) (record { type = id; behind_pointer = behind })
    × (slice_get records id ≡ None)
IsStepError records p user (MaximumTypeDepthReached id) =
    (u : Use) × NeedsUse records user u × (u.type ≡ id) × (is_open p u ≡ true)
IsStepError records p user e = ⊥
