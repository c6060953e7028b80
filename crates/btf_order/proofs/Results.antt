-- What follows for a result.
use Rattle.std.proofs.Common.{◌≡◌, Result, Ok, Err, OnOk, IfOk, IfErr, sym, subst}
use Rattle.std.specs.Result.{IsErrAnd}

module _ {X E : Type 0} where
  pub on_ok : (P Q : Type 0) (result : Result X E) → (P → Q) → OnOk result P → OnOk result Q
  on_ok P Q (Ok x) follows h = follows h
  on_ok P Q (Err e) follows h = h

  pub if_ok : (P Q : X → Type 0) (result : Result X E) → ((x : X) → P x → Q x) → IfOk result P → IfOk result Q
  if_ok P Q (Ok x) follows h = follows x h
  if_ok P Q (Err e) follows h = h

  pub if_on_ok : (P : X → Type 0) (Q : Type 0) (result : Result X E) → ((x : X) → P x → Q) → IfOk result P → OnOk result Q
  if_on_ok P Q (Ok x) follows h = follows x h
  if_on_ok P Q (Err e) follows h = h

  pub if_err : (P Q : E → Type 0) (result : Result X E) → ((e : E) → P e → Q e) → IfErr result P → IfErr result Q
  if_err P Q (Ok x) follows h = h
  if_err P Q (Err e) follows h = follows e h

  -- the error is this one
  pub if_err_is : (Q : E → Type 0) (result : Result X E) (e : E) → IsErrAnd result (λ x. x ≡ e) → Q e → IfErr result Q
  if_err_is Q (Ok x) e is q = tt
  if_err_is Q (Err x) e is q = subst Q (sym is) q
