-- Refusals that are passed on.
use Rattle.std.proofs.Common.{◌≡◌, Option, None, Some, Result, Ok, Err, sym, ap, subst, ◌∙◌}
use Rattle.std.specs.Prelude.{IfSome, IsErrAnd}
use Rattle.std.proofs.lemmas.Result.{err_from_is_err_and}
use Rattle.btf_model.specs.Refusal.{Refusal}
use Rattle.btf_plain.specs.declared.error.BtfError.{BtfError}
use Rattle.btf_plain.specs.Error.{MeetsOrNoMemory, refusal_of}

-- `?` passes an error on
pub handed_on : {X Y : Type 0} (view : X → Y) (e : BtfError) (r : Result X BtfError) (P : Result Y Refusal → Type 0) → IsErrAnd r (λ y. y ≡ e) → IfSome (refusal_of e) (λ f. P (Err f)) → MeetsOrNoMemory view r P
handed_on view e r P err given =
    let p = err_from_is_err_and r err in
    subst (λ x. MeetsOrNoMemory view x P) (sym (p.1 ∙ ap (λ (x : BtfError). Err x) p.2)) given

-- an error of which the refusal is known
pub known_refusal : (e : BtfError) (f : Refusal) (P : Refusal → Type 0) → refusal_of e ≡ Some f → P f → IfSome (refusal_of e) P
known_refusal e f P is p = subst (λ (o : Option Refusal). IfSome o P) (sym is) p

-- a fact besides the result
pub with_fact : {X Y : Type 0} (view : X → Y) (r : Result X BtfError) (F : Type 0) (P : Result Y Refusal → Type 0) → F → MeetsOrNoMemory view r P → MeetsOrNoMemory view r (λ answer. F × P answer)
with_fact view (Ok x) F P fact given = (fact, given)
with_fact view (Err e) F P fact given = beside (refusal_of e) given
  where
    beside : (o : Option Refusal) → IfSome o (λ f. P (Err f)) → IfSome o (λ f. F × P (Err f))
    beside None is = tt
    beside (Some f) is = (fact, is)
