use Rattle.btf_view.proofs.filling.write_words.Goals as goal

pub returns : goal.returns
returns c r is = c.type_words.ensures r (c.in-Some.ensures r is)
