use Rattle.std.proofs.Common.{refl, ap}
use Rattle.btf_model.specs.Text.{text_of}
use Rattle.btf_model.specs.Refusal.{InvalidStringOffset}
use Rattle.btf_table.proofs.Ascii.{utf8_text_at}
use Rattle.btf_table.proofs.table.text.any_text_at.Goals as goal

pub returns-in_default-clause-no_memory : goal.returns-in_default-clause-no_memory
returns-in_default-clause-no_memory c = λ _. (InvalidStringOffset c.args.offset, refl, ap (text_of c.args.offset) c.in_default.ensures.bytes)

pub returns-in-Some-utf8_text-clause-text : goal.returns-in-Some-utf8_text-clause-text
returns-in-Some-utf8_text-clause-text c = utf8_text_at c.args.strings.now c.args.offset c.in-Some.bytes.now c.in-Some-utf8_text.text.now c.in-Some.ensures.bytes c.in-Some-utf8_text.ensures.0 c.in-Some-utf8_text.ensures.1

pub returns-in-Some-utf8_text-clause-no_memory : goal.returns-in-Some-utf8_text-clause-no_memory
returns-in-Some-utf8_text-clause-no_memory c = λ _. returns-in-Some-utf8_text-clause-text c
