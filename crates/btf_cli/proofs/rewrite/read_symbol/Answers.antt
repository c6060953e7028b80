use Rattle.btf_cli.specs.Setting.{SymbolOffset}
use Rattle.btf_cli.proofs.rewrite.read_symbol.Goals as goal

pub returns-in_err-name-clause-none : goal.returns-in_err-name-clause-none
returns-in_err-name-clause-none c = rw c.from_residual.ensures (λ name offset sets. c.in_err-name.ensures.none (SymbolOffset name offset) sets)
