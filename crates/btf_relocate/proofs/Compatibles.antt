-- The comparison of two fields, array by array.
use Rattle.std.proofs.Common.{◌≡◌, ℕ, zero, suc, ◌+◌, ◌-◌, ◌<◌, ◌≤◌, Bool, Option, Some, Result, Ok, Err, refl, sym, ap, ◌∙◌, arith}
use Rattle.std.specs.Result.{IsErrAnd}
use Rattle.std.proofs.lemmas.Result.{err_from_is_err_and}
use Rattle.btf_model.specs.Record.{Kind, Record, Array, kind_of}
use Rattle.btf_model.specs.Fields.{element_type}
use Rattle.btf_model.specs.Table.{Table}
use Rattle.btf_model.specs.Walk.{walk_limit}
use Rattle.btf_relocate_model.specs.Compatible.{compatible_within, compatible_by, alike}
use Rattle.btf_relocate_model.specs.Types.{◌>>=◌, resolved_record}
use Rattle.btf_relocate_model.specs.declared.error.RelocationError.{RelocationError}
use Rattle.btf_relocate_model.specs.declared.error.RelocationError.TheVariants.{MaximumTypeDepthReached}

within_suc : (n start : ℕ) (local target : Table) (id other : ℕ) → compatible_within (suc n) start local target id other
    ≡ (resolved_record local id >>= λ r. resolved_record target other >>= λ s. compatible_by (compatible_within n start local target) local target (kind_of r.info) (kind_of s.info) r s)
unfolding compatible_within
within_suc n start local target id other = refl

within_zero : (start : ℕ) (local target : Table) (id other : ℕ) → compatible_within zero start local target id other ≡ Err (MaximumTypeDepthReached start)
unfolding compatible_within
within_zero start local target id other = refl

module _ (start : ℕ) (local target : Table) (id other counter : ℕ) (answer : Result Bool RelocationError) where
  -- the comparison from a pair on, through the arrays that are left, has the answer
  abbrev Left : Type 0
  Left = compatible_within (walk_limit - counter) start local target id other ≡ answer

  step : counter < walk_limit → Left → (resolved_record local id >>= λ r. resolved_record target other >>= λ s. compatible_by (compatible_within (walk_limit - (counter + 1)) start local target) local target (kind_of r.info) (kind_of s.info) r s) ≡ answer
  step lt left =
      let one : walk_limit - counter ≡ suc (walk_limit - (counter + 1)) = omega (arith, lt) in
      sym (within_suc (walk_limit - (counter + 1)) start local target id other)
      ∙ ap (λ (n : ℕ). compatible_within n start local target id other) (sym one) ∙ left

  pub first_refused : counter < walk_limit → Left → (e : RelocationError) → resolved_record local id ≡ Err e → Err e ≡ answer
  first_refused lt left e is = rw is at (step lt left)

  pub second_refused : counter < walk_limit → Left → (r : Record) (e : RelocationError) → resolved_record local id ≡ Ok r → resolved_record target other ≡ Err e → Err e ≡ answer
  second_refused lt left r e first is = rw (first, is) at (step lt left)

  pub both_known : counter < walk_limit → Left → (r s : Record) → resolved_record local id ≡ Ok r → resolved_record target other ≡ Ok s
      → compatible_by (compatible_within (walk_limit - (counter + 1)) start local target) local target (kind_of r.info) (kind_of s.info) r s ≡ answer
  both_known lt left r s first second = rw (first, second) at (step lt left)

  pub too_many : walk_limit ≤ counter → Left → Err (MaximumTypeDepthReached start) ≡ answer
  too_many past left =
      let none : walk_limit - counter ≡ zero = omega (arith, past) in
      sym (within_zero start local target id other) ∙ ap (λ (n : ℕ). compatible_within n start local target id other) (sym none) ∙ left

-- the error with which a `?` leaves a function
pub from_err : {A : Type 0} (r : Result A RelocationError) (e : RelocationError) → IsErrAnd r (λ x. x ≡ e) → r ≡ Err e
from_err r e same = let given = err_from_is_err_and r same in given.1 ∙ ap (λ (x : RelocationError). Err x) given.2

-- two types that are both ARRAYs, or not
abbrev pub AreNotArrays : Option Kind → Option Kind → Type 0
AreNotArrays k q = (k ≡ Some Array) × (q ≡ Some Array) → ⊥

pub not_arrays : (further : ℕ → ℕ → Result Bool RelocationError) (local target : Table) (k q : Option Kind) (r s : Record) → AreNotArrays k q
    → compatible_by further local target k q r s ≡ alike local target r s
not_arrays further local target (Some Array) (Some Array) r s apart = absurd (apart (refl, refl))
not_arrays further local target (Some Array) q r s apart = refl
not_arrays further local target k q r s apart = refl

-- two ARRAYs
pub arrays : (further : ℕ → ℕ → Result Bool RelocationError) (local target : Table) (k q : Option Kind) (r s : Record) → k ≡ Some Array → q ≡ Some Array
    → compatible_by further local target k q r s ≡ further (element_type r) (element_type s)
arrays further local target k q r s is other = rw (is, other) refl
