use Rattle.btf_cli.proofs.Asking.{lines_alike, declined_alike, failed_alike, written_alike}
use Rattle.btf_cli.proofs.Outcomes.{of_ok, of_err, fails_by_some, is_not_2}
use Rattle.btf_cli.proofs.program.run.Goals as goal

pub returns-in_default-clause-refused : goal.returns-in_default-clause-refused
returns-in_default-clause-refused g c = λ line asks bytes f is declined. absurd (c.in_default.ensures.none line asks)

pub returns-clause-usage : goal.returns-clause-usage
returns-clause-usage g c =
    (λ two. absurd (is_not_2 c.carry_out-outcome.result c.status_of.result c.status_of.ensures.ok c.status_of.ensures.failed two), λ none. absurd (none c.in-Some.line c.in-Some.ensures.some))

pub returns-clause-refused : goal.returns-clause-refused
returns-clause-refused g c = λ line asks bytes f is declined.
    let same = lines_alike c.args.words.now line c.in-Some.line asks c.in-Some.ensures.some in
    let failed = c.carry_out-outcome.ensures.refused bytes f is (declined_alike line c.in-Some.line bytes f same declined) in
    (of_err c.carry_out-outcome.result c.status_of.ensures.failed failed.0, failed.1)

pub returns-clause-written : goal.returns-clause-written
returns-clause-written g c = λ line asks zero.
    let same = lines_alike c.args.words.now c.in-Some.line line c.in-Some.ensures.some asks in
    written_alike c.in-Some.line line _ _ (g.R.Read.remaining c.args.input.now) same (of_ok c.carry_out-outcome.result c.carry_out-outcome.ensures.written (c.status_of.ensures.ok.0 zero))

pub returns-clause-failed : goal.returns-clause-failed
returns-clause-failed g c = λ line asks one.
    let same = lines_alike c.args.words.now c.in-Some.line line c.in-Some.ensures.some asks in
    failed_alike c.in-Some.line line (g.R.Read.remaining c.args.input.now) (g.W.Write.contents c.args.out.now) _ same
    (fails_by_some c.in-Some.line (g.R.Read.remaining c.args.input.now) (g.W.Write.contents c.args.out.now) _ c.carry_out-outcome.result c.status_of.result c.status_of.ensures.ok c.carry_out-outcome.ensures.failed one)

pub returns-in_default-clause-failed : goal.returns-in_default-clause-failed
returns-in_default-clause-failed g c = λ line asks one. absurd (c.in_default.ensures.none line asks)
