-- Opening a .BTF.ext, if there may be one.
use Rattle.std.proofs.Common.{◌≡◌, ℕ, List, Bool, true, false, Option, Some, None, Result, refl, sym, subst}
use Rattle.std.specs.Prelude.{is_some}
use Rattle.std.proofs.lemmas.Bool.{true≢false}
use Rattle.btf_model.specs.Refusal.{Refusal}
use Rattle.btf_model.specs.declared.endianness.Endianness.{Endianness}
use Rattle.vbtf.specs.declared.opened.Opened.{Opened}
use Rattle.vbtf.specs.Ext.{AddsExt}

-- an option, by the result of a test
pub some_by_test : {X : Type 0} (o : Option X) → is_some o ≡ true → (x : X) × (o ≡ Some x)
some_by_test (Some x) is = (x, refl)
some_by_test None is = absurd (true≢false (sym is))

pub none_by_test : {X : Type 0} (o : Option X) → is_some o ≡ false → o ≡ None
none_by_test None is = refl
none_by_test (Some x) is = absurd (true≢false is)

-- the same for equal values
pub adds_same : (o order : Endianness) (bytes : List ℕ) (d old n new : Opened) (answer : Result Bool Refusal) → o ≡ order → d ≡ old → new ≡ n → AddsExt o bytes d n answer → AddsExt order bytes old new answer
adds_same o order bytes d old n new answer same_order same_old same_new adds =
    subst (λ x. AddsExt x bytes old new answer) same_order
    (subst (λ x. AddsExt o bytes x new answer) same_old (subst (λ x. AddsExt o bytes d x answer) (sym same_new) adds))
