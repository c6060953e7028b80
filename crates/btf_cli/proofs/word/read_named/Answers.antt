use Rattle.btf_cli.proofs.NameEnds.{not_named, not_numbered}
use Rattle.btf_cli.proofs.word.read_named.Goals as goal

pub returns-in_err-name-clause-none : goal.returns-in_err-name-clause-none
returns-in_err-name-clause-none c = rw c.from_residual.ensures (not_named c.args.text.now c.in_err-name.ensures.cases)

pub returns-in_err-read_number-clause-none : goal.returns-in_err-read_number-clause-none
returns-in_err-read_number-clause-none c =
    rw c.from_residual-in_err-read_number.ensures
    (not_numbered c.args.text.now c.in_ok-name.name.now c.in_ok-name.number.now c.in_ok-name.ensures.cases c.in_err-read_number.ensures.none)
