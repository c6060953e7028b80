use Rattle.btf_view.proofs.Chunks.{no_text_there, text_compared}
use Rattle.btf_view.proofs.text.has_any_name.Goals as goal

pub returns-in-Some : goal.returns-in-Some
returns-in-Some c = text_compared c.args.strings.now c.in-Some.text.now c.args.name.now c.args.offset c.is_text_of.result c.in-Some.ensures.bytes c.is_text_of.ensures

pub returns-in-None : goal.returns-in-None
returns-in-None c = no_text_there c.args.strings.now c.args.offset c.in-None.ensures.bytes
