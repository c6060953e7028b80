use Rattle.std.proofs.Common.{◌≡◌, ◌∙◌, ℕ, List, sym, subst}
use Rattle.std.proofs.lemmas.Bool.{false≢true}
use Rattle.std.specs.Prelude.{Option, IfSome}
use Rattle.btf_plain.specs.Error.{refusal_of}
use Rattle.btf_cli.specs.Answer.{IsAnswer, IsDeclined}
use Rattle.btf_cli.specs.Output.{output_bytes}
use Rattle.btf_cli.proofs.Outcomes.{reading_fails, answer_fails, writing_fails}
use Rattle.btf_cli.proofs.program.carry_out.Goals as goal

pub returns-clause-refused : goal.returns-clause-refused
returns-clause-refused g c = λ bytes f is declined.
    let read : c.in_ok-blob.blob.items ≡ bytes = subst (λ (o : Option (List ℕ)). IfSome o (λ bs. c.in_ok-blob.blob.items ≡ bs)) is c.in_ok-blob.ensures.whole in
    absurd (false≢true (c.in_ok-output.ensures.refused f (subst (λ (bs : List ℕ). IsDeclined c.args.line bs f) (sym (c.deref.ensures.value ∙ read)) declined)))

pub returns-in_err-blob-clause-failed : goal.returns-in_err-blob-clause-failed
returns-in_err-blob-clause-failed g c =
    reading_fails c.args.line (g.R.Read.remaining c.args.input.now) (g.W.Write.contents c.args.out.now) c.in_err-blob.field-0.0 c.from_residual.result c.in_err-blob.ensures.fault c.from_residual.ensures.1

pub returns-in_err-output-clause-failed : goal.returns-in_err-output-clause-failed
returns-in_err-output-clause-failed g c =
    let declined : IfSome (refusal_of c.in_err-output.field-0.0) (IsDeclined c.args.line c.in_ok-blob.blob.items) =
    subst (λ (bs : List ℕ). IfSome (refusal_of c.in_err-output.field-0.0) (IsDeclined c.args.line bs)) c.deref.ensures.value c.in_err-output.ensures.reported in
    answer_fails c.args.line c.in_ok-blob.blob.items (g.R.Read.remaining c.args.input.now) (g.W.Write.contents c.args.out.now) c.in_err-output.field-0.0 c.from_residual-in_err-output.result c.in_ok-blob.ensures.whole declined c.from_residual-in_err-output.ensures.1

pub returns-clause-failed : goal.returns-clause-failed
returns-clause-failed g c =
    let written : List ℕ = output_bytes c.in_ok-output.output in
    let made : IsAnswer c.args.line c.in_ok-blob.blob.items written = subst (λ (bs : List ℕ). IsAnswer c.args.line bs written) c.deref.ensures.value c.in_ok-output.ensures.made in
    writing_fails c.args.line c.in_ok-blob.blob.items written (g.R.Read.remaining c.args.input.now) (g.W.Write.contents c.args.out.now) (g.W.Write.contents c.write_to.new.out) c.write_to.result c.in_ok-blob.ensures.whole made c.write_to.ensures.fault
