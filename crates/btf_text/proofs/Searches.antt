-- Searches, one after the other.
use Rattle.std.proofs.Common.{◌≡◌, ℕ, List, Option, Some, Result, Ok, Err, inl, inr, subst, refl, sym, ap, ◌∙◌}
use Rattle.std.specs.Prelude.{IfSome}
use Rattle.std.specs.Result.{IsErrAnd}
use Rattle.std.proofs.lemmas.Option.{IfSome_then}
use Rattle.std.proofs.lemmas.Result.{err_from_is_err_and}
use Rattle.btf_model.specs.Ext.{Then}
use Rattle.btf_model.specs.Refusal.{Refusal, UnknownBtfTypeName}
use Rattle.btf_plain.specs.Error.{MeetsOrNoMemory, refusal_of}
use Rattle.btf_plain.specs.declared.error.BtfError.{BtfError}
use Rattle.btf_text.specs.Layout.{OrElse}

-- after a search that found no type of the name, the answer of the second search is the answer of both
searched : (First Second : Result ℕ Refusal → Type 0) (name : List ℕ) (r : Result ℕ BtfError) → First (Err (UnknownBtfTypeName name))
    → MeetsOrNoMemory (λ id. id) r Second → MeetsOrNoMemory (λ id. id) r (OrElse First Second)
searched First Second name (Ok id) found then = inr (Err (UnknownBtfTypeName name), found, refl, then)
searched First Second name (Err e) found then =
    IfSome_then (refusal_of e) then (λ refusal refused. inr (Err (UnknownBtfTypeName name), found, refl, refused))

pub searched_on : (First Second : Result ℕ Refusal → Type 0) (name : List ℕ) (e : BtfError) (first second : Result ℕ BtfError)
    → first ≡ Err e → refusal_of e ≡ Some (UnknownBtfTypeName name) → MeetsOrNoMemory (λ id. id) first First
    → MeetsOrNoMemory (λ id. id) second Second → MeetsOrNoMemory (λ id. id) second (OrElse First Second)
searched_on First Second name e first second is refused found then =
    searched First Second name second (subst (λ (o : Option Refusal). IfSome o (λ refusal. First (Err refusal))) refused
    (subst (λ (r : Result ℕ BtfError). MeetsOrNoMemory (λ id. id) r First) is found)) then

from_err : (r : Result ℕ BtfError) (e : BtfError) → IsErrAnd r (λ x. x ≡ e) → r ≡ Err e
from_err r e same = let given = err_from_is_err_and r same in given.1 ∙ ap (λ (x : BtfError). Err x) given.2

-- the error of the first step is the answer of both
pub refused_first : (First : Result ℕ Refusal → Type 0) (Second : ℕ → Result ℕ Refusal → Type 0) (e : BtfError) (r : Result ℕ BtfError)
    → IsErrAnd r (λ x. x ≡ e) → IfSome (refusal_of e) (λ refusal. First (Err refusal)) → MeetsOrNoMemory (λ id. id) r (Then First Second)
refused_first First Second e r same refused =
    subst (λ (x : Result ℕ BtfError). MeetsOrNoMemory (λ id. id) x (Then First Second)) (sym (from_err r e same))
    (IfSome_then (refusal_of e) refused (λ refusal first. inl first))

-- the error of the second step is the answer of both
pub refused_second : (First : Result ℕ Refusal → Type 0) (Second : ℕ → Result ℕ Refusal → Type 0) (id : ℕ) (e : BtfError) (r : Result ℕ BtfError)
    → IsErrAnd r (λ x. x ≡ e) → First (Ok id) → IfSome (refusal_of e) (λ refusal. Second id (Err refusal)) → MeetsOrNoMemory (λ id. id) r (Then First Second)
refused_second First Second id e r same found refused =
    subst (λ (x : Result ℕ BtfError). MeetsOrNoMemory (λ id. id) x (Then First Second)) (sym (from_err r e same))
    (IfSome_then (refusal_of e) refused (λ refusal second. inr (id, found, second)))
