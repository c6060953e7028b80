use Rattle.btf_table.proofs.Ascii.{ascii_text_at}
use Rattle.btf_table.proofs.table.text.text_at.Goals as goal

pub returns-in-Ok-clause-text : goal.returns-in-Ok-clause-text
returns-in-Ok-clause-text c = ascii_text_at c.args.strings.now c.args.offset c.strings_from.result.now c.in-Ok.text.now c.strings_from.ensures c.in-Ok.ensures.text

pub returns-in-Ok-clause-no_memory : goal.returns-in-Ok-clause-no_memory
returns-in-Ok-clause-no_memory c = λ _. returns-in-Ok-clause-text c
