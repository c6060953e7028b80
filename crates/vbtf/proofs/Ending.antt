-- The outcome of a call in which an allocation failed, or that returned an error.
use Rattle.std.proofs.Common.{inl, inr, ℕ, ◌≡◌, sym, subst, ◌∙◌}
use Rattle.std.proofs.Math.Nat.{suc-ne-zero}
use Rattle.std.specs.Prelude.{◌⊎◌, Option, Some, None, Result, Ok, Err, IfSome}
use Rattle.btf_model.specs.Refusal as refusals
use Rattle.btf_model.specs.Refusal.{Refusal}
use Rattle.btf_plain.specs.Error.{IsOrNoMemory, MeetsOrNoMemory, refusal_of}
use Rattle.btf_plain.specs.declared.error.BtfError.{BtfError}
use Rattle.btf_plain.specs.declared.error.BtfError.TheVariants.{OutOfMemory}
use Rattle.vbtf.specs.declared.fault.Fault.{Fault}
use Rattle.vbtf.specs.Status.{status_of, ReportsError, Fails, EndsOrNoMemory, EndsFindingOrNoMemory}

-- the outcome of an error, by its refusal
pub refused : {Y : Type 0} (status : ℕ) (fault : Fault) (o : Option Refusal) (P : Result Y Refusal → Type 0)
    → IfSome o (λ r. P (Err r)) → ReportsError status fault o → Fails status fault P
refused status fault (Some r) P holds reported = inr (r, reported, holds)
refused status fault None P holds reported = inl reported

-- the error of a call whose result is put into a box, by the refusal of the call
pub boxed_error : {Y : Type 0} (answer : Result Y BtfError) (error : BtfError) (P : Result Y Refusal → Type 0)
    → MeetsOrNoMemory (λ y. y) answer P → (answer ≡ Err error) ⊎ (error ≡ OutOfMemory) → IfSome (refusal_of error) (λ r. P (Err r))
boxed_error answer error P meets (inl is) = subst (λ a. MeetsOrNoMemory (λ y. y) a P) is meets
boxed_error answer error P meets (inr full) = subst (λ e. IfSome (refusal_of e) (λ r. P (Err r))) (sym full) tt

-- the value of a call that has no other
pub only_value : {Y : Type 0} (answer : Result Y BtfError) (found t : Y) → IsOrNoMemory (λ y. y) answer (Ok t)
    → answer ≡ Ok found → (λ (a : Result Y Refusal). a ≡ Ok t) (Ok found)
only_value answer found t only is = subst (λ a. IsOrNoMemory (λ y. y) a (Ok t)) is only

pub ends_refused : {Y : Type 0} (status : ℕ) (value : Y) (fault : Fault) (o : Option Refusal) (P : Result Y Refusal → Type 0)
    → IfSome o (λ r. P (Err r)) → ReportsError status fault o → EndsOrNoMemory status value fault P
ends_refused status value fault (Some r) P holds reported = inl (inr (r, reported, holds))
ends_refused status value fault None P holds reported = inr reported

pub finding_refused : {Y : Type 0} (status : ℕ) (value : Y) (fault : Fault) (o : Option Refusal) (P : Result (Option Y) Refusal → Type 0)
    → IfSome o (λ r. P (Err r)) → ReportsError status fault o → EndsFindingOrNoMemory status value fault P
finding_refused status value fault o P holds reported =
    elim (refused status fault o P holds reported) [
      | inl full ↦ inr full
      | inr (r, reports, p) ↦ inl (inr (inr (r, reports, p)))
    ]

-- no error has the status of success
status_is_no_success : (r : Refusal) → status_of r ≡ 0 → ⊥
status_is_no_success refusals.InvalidHeader zero = suc-ne-zero 0 zero
status_is_no_success refusals.InvalidTypeInfo zero = suc-ne-zero 1 zero
status_is_no_success refusals.InvalidRelocationInfo zero = suc-ne-zero 2 zero
status_is_no_success (refusals.InvalidTypeKind kind) zero = suc-ne-zero 3 zero
status_is_no_success (refusals.InvalidRelocationKind kind) zero = suc-ne-zero 4 zero
status_is_no_success (refusals.InvalidStringOffset offset) zero = suc-ne-zero 5 zero
status_is_no_success (refusals.InvalidInfo offset len section_len) zero = suc-ne-zero 6 zero
status_is_no_success (refusals.InvalidLineInfo offset len section_len) zero = suc-ne-zero 7 zero
status_is_no_success (refusals.UnknownBtfType type_id) zero = suc-ne-zero 8 zero
status_is_no_success (refusals.UnexpectedBtfType type_id) zero = suc-ne-zero 9 zero
status_is_no_success (refusals.UnknownBtfTypeName type_name) zero = suc-ne-zero 10 zero
status_is_no_success (refusals.MaximumTypeDepthReached type_id) zero = suc-ne-zero 11 zero
status_is_no_success (refusals.SymbolOffsetNotFound symbol_name) zero = suc-ne-zero 12 zero
status_is_no_success refusals.InvalidDatasec zero = suc-ne-zero 13 zero
status_is_no_success (refusals.UnknownSectionSize section_name) zero = suc-ne-zero 14 zero
status_is_no_success refusals.InvalidSymbolName zero = suc-ne-zero 15 zero
status_is_no_success (refusals.InnerMapCannotBePinned name) zero = suc-ne-zero 16 zero
status_is_no_success (refusals.MultiLevelMapInMapNotSupported name) zero = suc-ne-zero 17 zero
status_is_no_success (refusals.InvalidValuesSpec name) zero = suc-ne-zero 18 zero

pub error_is_no_success : (status : ℕ) (fault : Fault) (o : Option Refusal) → ReportsError status fault o → status ≡ 0 → ⊥
error_is_no_success status fault (Some r) reported zero = status_is_no_success r (sym reported.0 ∙ zero)
error_is_no_success status fault None reported zero = suc-ne-zero 19 (sym reported.0 ∙ zero)
