-- Lists of tests.
use Rattle.std.proofs.Common.{◌≡◌, ℕ, ◌+◌, ◌-◌, ◌<◌, ◌≤◌, Bool, List, [], ◌∷◌, ◌++◌, length, Option, None, Some, Result, Ok, Err, refl, sym, ap, ◌∙◌, arith}
use Rattle.std.specs.Prelude.{if◌then◌else◌}
use Rattle.std.proofs.lemmas.Bool.{lt-leb}
use Rattle.std.proofs.lemmas.Option.{none-some}
use Rattle.std.specs.Result.{result_ok}
use Rattle.btf_table.specs.Checked.{checked}
use Rattle.btf_model.proofs.Comparisons.{same_ok, same_err}
use Rattle.btf_model.specs.Refusal.{Refusal, InvalidStringOffset, InvalidTypeInfo}
use Rattle.btf_model.specs.Table.{section_limit}
use Rattle.btf_rewrite_model.specs.Checks.{Check, first_fault, has_room, fits}

-- if the first tests pass, the others count
pub fault_after : (before after : List Check) → first_fault before ≡ None → first_fault (before ++ after) ≡ first_fault after
fault_after [] after passed = refl
fault_after (None ∷ before) after passed = fault_after before after passed
fault_after (Some refusal ∷ before) after passed = absurd (none-some refusal (sym passed))

-- if one of the first tests does not pass, it counts
pub fault_before : (before after : List Check) (refusal : Refusal) → first_fault before ≡ Some refusal → first_fault (before ++ after) ≡ Some refusal
fault_before [] after refusal faults = absurd (none-some refusal faults)
fault_before (None ∷ before) after refusal faults = fault_before before after refusal faults
fault_before (Some other ∷ before) after refusal faults = faults

-- three lists of tests: the first, then the second
pub fault_second : (a b c : List Check) (refusal : Refusal) → first_fault a ≡ None → first_fault b ≡ Some refusal → first_fault (a ++ b ++ c) ≡ Some refusal
fault_second a b c refusal passed faults = fault_before (a ++ b) c refusal (fault_after a b passed ∙ faults)

pub fault_third : (a b c : List Check) → first_fault a ≡ None → first_fault b ≡ None → first_fault (a ++ b ++ c) ≡ first_fault c
fault_third a b c passed too = fault_after (a ++ b) c (fault_after a b passed ∙ too)

pub no_room : (offset : ℕ) (text : List ℕ) → offset ≤ section_limit → section_limit - offset ≤ length text → has_room offset text ≡ Some (InvalidStringOffset offset)
no_room offset text below long = ap (λ (b : Bool). if b then None else Some (InvalidStringOffset offset)) (lt-leb (offset + length text + 1) section_limit (omega (arith, below, long)))

pub not_fitting : (used bytes : ℕ) → used ≤ section_limit → section_limit - used < bytes → fits used bytes ≡ Some InvalidTypeInfo
not_fitting used bytes below long = ap (λ (b : Bool). if b then None else Some InvalidTypeInfo) (lt-leb (used + bytes) section_limit (omega (arith, below, long)))

ok_or_err : {A : Type 0} (a : A) (refusal : Refusal) → ◌≡◌ {A = Result A Refusal} (Ok a) (Err refusal) → ⊥
ok_or_err a refusal is = none-some a (sym (ap result_ok is))

-- what the result of tests means
pub checked_ok : {X : Type 0} (f : Option Refusal) (v x : X) → Ok x ≡ checked f v → (f ≡ None) × (x ≡ v)
checked_ok None v x is = (refl, same_ok {E = Refusal} x v is)
checked_ok (Some refusal) v x is = absurd (ok_or_err x refusal is)

pub checked_err : {X : Type 0} (f : Option Refusal) (v : X) (refusal : Refusal) → Err refusal ≡ checked f v → f ≡ Some refusal
checked_err None v refusal is = absurd (ok_or_err v refusal (sym is))
checked_err (Some other) v refusal is = ap (λ (r : Refusal). Some r) (same_err other refusal (sym is))
