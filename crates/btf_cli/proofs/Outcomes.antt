-- A command has one outcome: if it has an output on a table, it has no error on it.
use Rattle.std.proofs.Common.{◌≡◌, ◌∙◌, ℕ, Bool, List, [], Ok, Err, refl, sym, ap, subst, arith, ⊎_elim, Result, Option, Some, None, inr}
use Rattle.std.specs.Prelude.{◌↔◌, slice_get, IfOk, IfErr, IfSome, IsOk, IsErr, IsErrAnd, OnOk, OnErr}
use Rattle.std.specs.Result.{is_ok, result_ok}
use Rattle.std.proofs.lemmas.Bool.{false≢true}
use Rattle.std.proofs.lemmas.Option.{none-some}
use Rattle.std.proofs.lemmas.Result.{err_from_is_err_and}
use Rattle.btf_model.specs.Record.{Record}
use Rattle.btf_model.specs.Refusal.{Refusal, MaximumTypeDepthReached}
use Rattle.btf_model.specs.Table.{Table}
use Rattle.btf_model.specs.Blob.{IsTable}
use Rattle.btf_rewrite_model.specs.Rewritten.{IsRefused}
use Rattle.btf_model.specs.Walk.{By, HasSize, size_in}
use Rattle.btf_model.proofs.Blobs.{same_table, table_not_refused}
use Rattle.btf_rewrite_model.proofs.Kernels.{rewritten_not_refused}
use Rattle.btf_model.proofs.OnePlain.{one_plain}
use Rattle.btf_model.proofs.Walks.{one_answer, by_one}
use Rattle.btf_plain.specs.Error.{refusal_of}
use Rattle.btf_plain.specs.declared.error.BtfError.{BtfError}
use Rattle.btf_compare.specs.Pairs.{id_pair}
use Rattle.btf_cli.specs.Setting.{Setting}
use Rattle.btf_cli.specs.Settings.{layout_set, kernel_set, policy_set}
use Rattle.btf_cli.specs.Request.{request_words, request_ids}
use Rattle.btf_cli.specs.declared.request.Request.{Request}
use Rattle.btf_cli.specs.declared.line.Line.{Line}
use Rattle.btf_cli.specs.declared.line.Query.{Query}
use Rattle.btf_cli.specs.declared.line.Query.TheVariants.{Copy, Types, Size, Compat}
use Rattle.btf_cli.specs.declared.line.Command.{Command}
use Rattle.btf_cli.specs.declared.line.Command.TheVariants.{Ask, Rewrite}
use Rattle.btf_cli.specs.Answer.{ComparesWithin, RewritesAsAsked, Writes, Declines, IsAnswer, IsDeclined}
use Rattle.btf_cli.specs.Fault.{IsReadingFault, FailsBy, HasFailed}
use Rattle.std.specs.Io.KnownBytes.{Keeps}
use Rattle.btf_cli.specs.Output.{output_bytes}
use Rattle.btf_cli.specs.declared.output.Output.{Output}
use Rattle.btf_cli.specs.declared.fault.Fault.{Fault}
use Rattle.btf_cli.specs.declared.fault.Fault.TheVariants as faults
use Rattle.btf_cli.proofs.Asked.{settings_once}

compared_or_refused : (t : Table) (id other : ℕ) (found : Bool × ℕ) (refusal : Refusal) → ComparesWithin t id other (Ok found) → ComparesWithin t id other (Err refusal) → ⊥
compared_or_refused t id other found refusal has not = false≢true (ap is_ok (one_plain t t [] (id_pair id other) (Err refusal) (Ok found.0) not.0 has.0 not.1 has.1).0)

sized_or_refused : (records : List Record) (id n : ℕ) (refusal : Refusal) → HasSize records id (Ok n) → HasSize records id (Err refusal) → ⊥
sized_or_refused records id n refusal has not =
    none-some n (ap result_ok (one_answer (By (λ at. size_in at (slice_get records at.type))) (by_one (λ at. size_in at (slice_get records at.type))) (record { count = 1; type = id }) (λ _. MaximumTypeDepthReached id) (Err refusal) (Ok n) not has))

rewritten_or_refused : (request : Request) (t new : Table) (refusal : Refusal) → RewritesAsAsked request t (Ok new) → RewritesAsAsked request t (Err refusal) → ⊥
rewritten_or_refused request t new refusal has not =
    let same : not.0 ≡ has.0 = settings_once (request_words request) not.0 has.0 not.1.all has.1.all in
    rewritten_not_refused (policy_set has.0) t new (request_ids request) (layout_set has.0) (kernel_set has.0) refusal has.2 (subst (λ (settings : List Setting). IsRefused (policy_set settings) t (request_ids request) (layout_set settings) (kernel_set settings) refusal) same not.2)

written_or_declined : (command : Command) (t : Table) (written : List ℕ) (refusal : Refusal) → Writes command t written → Declines command t refusal → ⊥
written_or_declined (Ask Copy) t written refusal writes declines = declines
written_or_declined (Ask Types) t written refusal writes declines = declines
written_or_declined (Ask (Size id)) t written refusal writes declines = sized_or_refused t.records id writes.0 refusal writes.1 declines
written_or_declined (Ask (Compat id other)) t written refusal writes declines = compared_or_refused t id other (writes.0, writes.1) refusal writes.2 declines
written_or_declined (Rewrite request) t written refusal writes declines = rewritten_or_refused request t writes.0 refusal writes.1 declines

pub answered_not_declined : (line : Line) (bytes written : List ℕ) (refusal : Refusal) → IsAnswer line bytes written → IsDeclined line bytes refusal → ⊥
answered_not_declined line bytes written refusal answer declined =
    ⊎_elim
    (λ no_table. table_not_refused line.endianness bytes answer.0 refusal answer.1 no_table)
    (λ p.
    written_or_declined line.command answer.0 written refusal answer.2
    (subst (λ (u : Table). Declines line.command u refusal) (same_table line.endianness bytes p.0 answer.0 p.1 answer.1) p.2))
    declined.cause

-- ---- results

-- if there is an error, the command fails, because each success is an output
pub declined_fails : (line : Line) (bytes : List ℕ) (r : Result Output BtfError) → IfOk r (λ output. IsAnswer line bytes (output_bytes output)) → (refusal : Refusal) → IsDeclined line bytes refusal → IsErr r
declined_fails line bytes (Ok output) made refusal declined = absurd (answered_not_declined line bytes (output_bytes output) refusal made declined)
declined_fails line bytes (Err e) made refusal declined = refl

-- the answer to a query of a line
pub query_made : (line : Line) (bytes : List ℕ) (query : Query) (t : Table) (r : Result Output BtfError) → line.command ≡ Ask query → IsTable line.endianness bytes t → IfOk r (λ output. Writes (Ask query) t (output_bytes output))
    → IfOk r (λ output. IsAnswer line bytes (output_bytes output))
query_made line bytes query t (Ok output) is parsed made = (t, parsed, subst (λ (command : Command). Writes command t (output_bytes output)) (sym is) made)
query_made line bytes query t (Err e) is parsed made = tt

pub query_of_words : (line : Line) (bytes : List ℕ) (query : Query) (t : Table) (r : Result Output BtfError) → line.command ≡ Ask query → IsTable line.endianness bytes t → IfErr r (λ e. IfSome (refusal_of e) (Declines (Ask query) t))
    → IfErr r (λ e. IfSome (refusal_of e) (IsDeclined line bytes))
query_of_words line bytes query t (Ok output) is parsed setting_asked = tt
query_of_words line bytes query t (Err e) is parsed setting_asked =
    elim (refusal_of e) as (λ (o : Option Refusal). IfSome o (Declines (Ask query) t) → IfSome o (IsDeclined line bytes))
    [ Some refusal ↦ λ declines. record { cause = inr (t, parsed, subst (λ (command : Command). Declines command t refusal) (sym is) declines) } | None ↦ λ none. tt ] setting_asked

-- a line by its command
pub line_of : (line : Line) (command : Command) → line.command ≡ command → line ≡ record { endianness = line.endianness; command = command }
line_of line command is = ap (λ (x : Command). record { endianness = line.endianness; command = x }) is

-- an error that is propagated has the same cause
pub same_asked : {X : Type 0} (line : Line) (bytes : List ℕ) (e : BtfError) (r : Result X BtfError) → IfSome (refusal_of e) (IsDeclined line bytes) → IsErrAnd r (λ other. other ≡ e)
    → IfErr r (λ other. IfSome (refusal_of other) (IsDeclined line bytes))
same_asked {X} line bytes e r setting_asked err =
    let q = err_from_is_err_and r err in
    subst (λ (x : Result X BtfError). IfErr x (λ other. IfSome (refusal_of other) (IsDeclined line bytes))) (sym (q.1 ∙ ap (λ (x : BtfError). Err x) q.2)) setting_asked

-- ---- faults

-- what is not written to stays as it is
keeps_itself : (old : Option (List ℕ)) → Keeps old old
keeps_itself None = tt
keeps_itself (Some xs) = refl

-- what is so of the bytes that were read is so of the known input
of_known : (P : List ℕ → Type 0) (read : List ℕ) (known : Option (List ℕ)) → IfSome known (λ bytes. read ≡ bytes) → P read → IfSome known P
of_known P read None whole p = tt
of_known P read (Some bytes) whole p = subst P whole p

-- a result that is an error of this fault
of_fault : {X : Type 0} (P : Fault → Type 0) (fault : Fault) (r : Result X Fault) → P fault → IsErrAnd r (λ other. other ≡ fault) → IfErr r P
of_fault {X} P fault r p err =
    let q = err_from_is_err_and r err in
    subst (λ (x : Result X Fault). IfErr x P) (sym (q.1 ∙ ap (λ (f : Fault). Err f) q.2)) p

not_declined : (line : Line) (known : Option (List ℕ)) (o : Option Refusal) → o ≡ None → IfSome known (λ bytes. IfSome o (IsDeclined line bytes))
not_declined line None o is = tt
not_declined line (Some bytes) o is = subst (λ (x : Option Refusal). IfSome x (IsDeclined line bytes)) (sym is) tt

fails_to_read : (line : Line) (known old : Option (List ℕ)) (fault : Fault) → IsReadingFault fault → FailsBy fault known old old line
fails_to_read line known old faults.Read is = keeps_itself old
fails_to_read line known old faults.Write is = absurd is
fails_to_read line known old (faults.Btf e) is = (keeps_itself old, not_declined line known (refusal_of e) is)

-- the input cannot be read
pub reading_fails : {X : Type 0} (line : Line) (known old : Option (List ℕ)) (fault : Fault) (r : Result X Fault) → IsReadingFault fault → IsErrAnd r (λ other. other ≡ fault)
    → IfErr r (λ other. FailsBy other known old old line)
reading_fails line known old fault r is = of_fault (λ other. FailsBy other known old old line) fault r (fails_to_read line known old fault is)

-- the command fails, or an allocation
pub answer_fails : {X : Type 0} (line : Line) (read : List ℕ) (known old : Option (List ℕ)) (e : BtfError) (r : Result X Fault) → IfSome known (λ bytes. read ≡ bytes) → IfSome (refusal_of e) (IsDeclined line read) → IsErrAnd r (λ fault. fault ≡ faults.Btf e)
    → IfErr r (λ fault. FailsBy fault known old old line)
answer_fails line read known old e r whole declined =
    of_fault (λ fault. FailsBy fault known old old line) (faults.Btf e) r (keeps_itself old, of_known (λ bytes. IfSome (refusal_of e) (IsDeclined line bytes)) read known whole declined)

-- the output cannot be written
pub writing_fails : {X : Type 0} (line : Line) (read written : List ℕ) (known old new : Option (List ℕ)) (r : Result X Fault) → IfSome known (λ bytes. read ≡ bytes) → IsAnswer line read written → IfErr r (λ fault. fault ≡ faults.Write)
    → IfErr r (λ fault. FailsBy fault known old new line)
writing_fails line read written known old new (Ok x) whole made is = tt
writing_fails line read written known old new (Err fault) whole made is =
    subst (λ (f : Fault). FailsBy f known old new line) (sym is) (of_known (λ bytes. (w : List ℕ) × IsAnswer line bytes w) read known whole (written, made))

-- status 1 is that of an error
pub fails_by_some : {X : Type 0} (line : Line) (known old new : Option (List ℕ)) (r : Result X Fault) (status : ℕ) → (status ≡ 0) ↔ IsOk r → IfErr r (λ fault. FailsBy fault known old new line) → status ≡ 1 → HasFailed known old new line
fails_by_some line known old new (Ok x) status ok failed one = absurd (let zero : status ≡ 0 = ok.1 refl in omega arith)
fails_by_some line known old new (Err fault) status ok failed one = (fault, failed)

-- ---- statuses

-- what holds on success, and what holds on failure
pub of_ok : {T E P : Type 0} (r : Result T E) → OnOk r P → IsOk r → P
of_ok (Ok x) p is = p
of_ok (Err e) p is = absurd (false≢true is)

pub of_err : {T E P : Type 0} (r : Result T E) → OnErr r P → IsErr r → P
of_err (Ok x) p is = absurd (false≢true is)
of_err (Err e) p is = p

-- the status of an outcome is 0 or 1
pub is_not_2 : {T E : Type 0} (r : Result T E) (status : ℕ) → (status ≡ 0) ↔ IsOk r → OnErr r (status ≡ 1) → status ≡ 2 → ⊥
is_not_2 (Ok x) status ok failed two = let zero : status ≡ 0 = ok.1 refl in omega arith
is_not_2 (Err e) status ok failed two = omega arith
