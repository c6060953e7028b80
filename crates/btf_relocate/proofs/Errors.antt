-- The error with which a `?` leaves a function.
use Rattle.std.proofs.Common.{◌≡◌, Result, Err, subst, sym, inr}
use Rattle.std.specs.Prelude.{◌⊎◌, MatchResult}
use Rattle.std.specs.Result.{IsErrAnd}
use Rattle.btf_relocate_model.specs.declared.error.RelocationError.{RelocationError}
use Rattle.btf_relocate_model.specs.declared.error.RelocationError.TheVariants.{OutOfMemory}
use Rattle.btf_relocate.specs.Gives.{Gives}
use Rattle.btf_relocate.proofs.Compatibles.{from_err}

pub gives_error : {A : Type 0} (r : Result A RelocationError) (e : RelocationError) (expected : Result A RelocationError) → IsErrAnd r (λ x. x ≡ e) → (e ≡ OutOfMemory) ⊎ (expected ≡ Err e) → Gives expected r
gives_error {A} r e expected same is = subst (λ (x : Result A RelocationError). Gives expected x) (sym (from_err r e same)) is

pub given_by : {A : Type 0} (r : Result A RelocationError) (e : RelocationError) (expected : Result A RelocationError) → IsErrAnd r (λ x. x ≡ e) → expected ≡ Err e → Gives expected r
given_by r e expected same is = gives_error r e expected same (inr is)

pub left_by : {A : Type 0} (r : Result A RelocationError) (e : RelocationError) (P : A → Type 0) (Q : RelocationError → Type 0) → IsErrAnd r (λ x. x ≡ e) → Q e → MatchResult r P Q
left_by r e P Q same is = subst (λ o. MatchResult o P Q) (sym (from_err r e same)) is
