use Rattle.std.proofs.Common.{ℕ, List, sym, subst}
use Rattle.std.specs.Prelude.{IfSome}
use Rattle.btf_plain.specs.Error.{refusal_of}
use Rattle.btf_cli.specs.declared.line.Line.{Line}
use Rattle.btf_cli.specs.declared.line.Command.TheVariants.{Rewrite}
use Rattle.btf_cli.specs.Answer.{IsAnswer, IsDeclined}
use Rattle.btf_cli.proofs.Outcomes.{answered_not_declined, declined_fails, query_made, query_of_words, same_asked, line_of}
use Rattle.btf_cli.proofs.program.answer.Goals as goal

pub returns-in_ok-table-in-Ask-clause-refused : goal.returns-in_ok-table-in-Ask-clause-refused
returns-in_ok-table-in-Ask-clause-refused c =
    declined_fails c.args.line c.args.blob.now c.answer_query.result (query_made c.args.line c.args.blob.now c.in-Ask.query c.in_ok-table-in-Ask.table c.answer_query.result c.in-Ask.is c.in_ok-table-in-Ask.ensures.parsed c.answer_query.ensures.made)

pub returns-in_ok-table-in-Ask-clause-reported : goal.returns-in_ok-table-in-Ask-clause-reported
returns-in_ok-table-in-Ask-clause-reported c = query_of_words c.args.line c.args.blob.now c.in-Ask.query c.in_ok-table-in-Ask.table c.answer_query.result c.in-Ask.is c.in_ok-table-in-Ask.ensures.parsed c.answer_query.ensures.reported

pub returns-in_ok-bytes-in-Rewrite-clause-refused : goal.returns-in_ok-bytes-in-Rewrite-clause-refused
returns-in_ok-bytes-in-Rewrite-clause-refused c = λ f declined.
    let written : List ℕ = c.in_ok-bytes-in-Rewrite.bytes.items in
    let made = subst (λ (line : Line). IsAnswer line c.args.blob.now written) (sym (line_of c.args.line (Rewrite c.in-Rewrite.request) c.in-Rewrite.is)) c.in_ok-bytes-in-Rewrite.ensures.made in
    absurd (answered_not_declined c.args.line c.args.blob.now written f made declined)

pub returns-in_err-bytes-in-Rewrite-clause-reported : goal.returns-in_err-bytes-in-Rewrite-clause-reported
returns-in_err-bytes-in-Rewrite-clause-reported c =
    let e = c.in_err-bytes-in-Rewrite.field-0.0 in
    let setting_asked = subst (λ (line : Line). IfSome (refusal_of e) (IsDeclined line c.args.blob.now)) (sym (line_of c.args.line (Rewrite c.in-Rewrite.request) c.in-Rewrite.is)) c.in_err-bytes-in-Rewrite.ensures.reported in
    same_asked c.args.line c.args.blob.now e c.from_residual-in_err-bytes-in-Rewrite.result setting_asked c.from_residual-in_err-bytes-in-Rewrite.ensures.1
