-- The errors of a table, as faults.
use Rattle.std.proofs.Common.{◌≡◌, ℕ, List, refl, sym, ap, subst, ◌∙◌, Option, Some, None, Result, Err}
use Rattle.std.proofs.lemmas.Result.{err_from_is_err_and}
use Rattle.std.specs.Prelude.{IfSome, IsErrAnd, MatchResult}
use Rattle.btf_model.specs.Blob.{IsRefusal}
use Rattle.btf_model.specs.Refusal.{Refusal}
use Rattle.btf_plain.specs.Error.{refusal_of}
use Rattle.btf_plain.specs.declared.error.BtfError.{BtfError}
use Rattle.btfobj_cli.specs.InputFile.{HasTableBytes, file_order}
use Rattle.btfobj_cli.specs.Fault.{ReportsTable, fault_by, table_fault}
use Rattle.btfobj_cli.specs.declared.input_file.InputFile.{InputFile}
use Rattle.btfobj_cli.specs.declared.fault.Fault.{Fault}

by_refusal : (input : InputFile) (bytes : List ℕ) (e : BtfError) (o : Option Refusal) → refusal_of e ≡ o → HasTableBytes input bytes → IfSome o (IsRefusal (file_order input) bytes) → ReportsTable input (fault_by e o)
by_refusal input bytes e (Some refusal) is has h = (bytes, refusal, has, is, h)
by_refusal input bytes e None is has h = tt

-- an error of the bytes of the table, which `?` returns as a fault
pub reports : {X : Type 0} (input : InputFile) (bytes : List ℕ) (e : BtfError) (r : Result X Fault) (P : X → Type 0) → HasTableBytes input bytes → IfSome (refusal_of e) (IsRefusal (file_order input) bytes) → IsErrAnd r (λ fault. fault ≡ table_fault e)
    → MatchResult r P (ReportsTable input)
reports {X} input bytes e r P has h err =
    let given = err_from_is_err_and r err in
    subst (λ (x : Result X Fault). MatchResult x P (ReportsTable input)) (sym (given.1 ∙ ap (λ (f : Fault). Err f) given.2)) (by_refusal input bytes e (refusal_of e) refl has h)
