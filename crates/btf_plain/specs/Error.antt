-- The relation between the results of the crates and the results of the definitions.
use Rattle.std.specs.Prelude.{◌≡◌, Result, Ok, Err, Option, Some, None, IfSome, string_bytes}
use Rattle.btf_model.specs.Refusal as refusals
use Rattle.btf_model.specs.Refusal.{Refusal}
use Rattle.btf_plain.specs.declared.error.BtfError.{BtfError}
use Rattle.btf_plain.specs.declared.error.BtfError.TheVariants as errors

-- The refusal that an error represents; none if an allocation failed.
abbrev pub refusal_of : BtfError → Option Refusal
refusal_of errors.InvalidHeader = Some refusals.InvalidHeader
refusal_of errors.InvalidTypeInfo = Some refusals.InvalidTypeInfo
refusal_of errors.InvalidRelocationInfo = Some refusals.InvalidRelocationInfo
refusal_of (errors.InvalidTypeKind kind) = Some (refusals.InvalidTypeKind kind)
refusal_of (errors.InvalidRelocationKind kind) = Some (refusals.InvalidRelocationKind kind)
refusal_of (errors.InvalidStringOffset offset) = Some (refusals.InvalidStringOffset offset)
refusal_of (errors.InvalidInfo offset len section_len) = Some (refusals.InvalidInfo offset len section_len)
refusal_of (errors.InvalidLineInfo offset len section_len) = Some (refusals.InvalidLineInfo offset len section_len)
refusal_of (errors.UnknownBtfType type_id) = Some (refusals.UnknownBtfType type_id)
refusal_of (errors.UnexpectedBtfType type_id) = Some (refusals.UnexpectedBtfType type_id)
refusal_of (errors.UnknownBtfTypeName type_name) = Some (refusals.UnknownBtfTypeName (string_bytes type_name))
refusal_of (errors.MaximumTypeDepthReached type_id) = Some (refusals.MaximumTypeDepthReached type_id)
refusal_of (errors.SymbolOffsetNotFound symbol_name) = Some (refusals.SymbolOffsetNotFound (string_bytes symbol_name))
refusal_of errors.InvalidDatasec = Some refusals.InvalidDatasec
refusal_of (errors.UnknownSectionSize section_name) = Some (refusals.UnknownSectionSize (string_bytes section_name))
refusal_of errors.InvalidSymbolName = Some refusals.InvalidSymbolName
refusal_of (errors.InnerMapCannotBePinned name) = Some (refusals.InnerMapCannotBePinned (string_bytes name))
refusal_of (errors.MultiLevelMapInMapNotSupported name) =
    Some (refusals.MultiLevelMapInMapNotSupported (string_bytes name))
refusal_of (errors.InvalidValuesSpec name) = Some (refusals.InvalidValuesSpec (string_bytes name))
refusal_of errors.OutOfMemory = None

-- The result, with view applied to its value, satisfies P; or an allocation failed.
abbrev pub MeetsOrNoMemory : {X Y : Type 0} → (X → Y) → Result X BtfError → (Result Y Refusal → Type 0) → Type 0
MeetsOrNoMemory view (Ok x) P = P (Ok (view x))
MeetsOrNoMemory view (Err e) P = IfSome (refusal_of e) (λ refusal. P (Err refusal))

-- The result is this one, or an allocation failed.
abbrev pub IsOrNoMemory : {X Y : Type 0} → (X → Y) → Result X BtfError → Result Y Refusal → Type 0
IsOrNoMemory view result answer = MeetsOrNoMemory view result (λ a. a ≡ answer)

-- The same for a call that allocates no memory: the result satisfies P.
abbrev pub Meets : {X Y : Type 0} → (X → Y) → Result X BtfError → (Result Y Refusal → Type 0) → Type 0
Meets view (Ok x) P = P (Ok (view x))
Meets view (Err e) P = (refusal : Refusal) × (refusal_of e ≡ Some refusal) × P (Err refusal)
