use Rattle.std.proofs.Common.{rules}
use Rattle.btf_cli.specs.Setting.{word_texts}
use Rattle.btf_cli.proofs.line.Line.read.Goals as goal

-- src/line.rt:80:5
pub returns-clause-some : goal.returns-clause-some
returns-clause-some c = (word_texts c.in_ok-order.rest.now, search rules, c.in_ok-command.ensures.some)
