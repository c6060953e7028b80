use Rattle.btf_cli.specs.Setting.{SectionSize}
use Rattle.btf_cli.proofs.rewrite.read_section.Goals as goal

pub returns-in_err-name-clause-none : goal.returns-in_err-name-clause-none
returns-in_err-name-clause-none c = rw c.from_residual.ensures (λ name size sets. c.in_err-name.ensures.none (SectionSize name size) sets)
