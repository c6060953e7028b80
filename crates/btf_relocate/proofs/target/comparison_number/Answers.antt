use Rattle.std.proofs.Common.{rules}
use Rattle.btf_relocate.proofs.KindNumbers.{code_of_info}
use Rattle.btf_relocate.proofs.target.comparison_number.Goals as goal

pub returns-in_default-clause-word : goal.returns-in_default-clause-word
returns-in_default-clause-word c = λ info is. rw (← code_of_info c.args.kind info is) (search rules)
