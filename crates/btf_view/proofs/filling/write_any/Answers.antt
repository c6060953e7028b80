use Rattle.btf_view.proofs.filling.write_any.Goals as goal

pub returns : goal.returns
returns c r is = c.type_words.ensures r (c.head_at.ensures r is)
