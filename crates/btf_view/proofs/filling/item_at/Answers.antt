use Rattle.std.proofs.Common.{◌≡◌, ◌∙◌, sym, inl, inr}
use Rattle.btf_view.proofs.Fills.{two_words, three_words}
use Rattle.btf_view.proofs.filling.item_at.Goals as goal

pub returns-then-WIDTH-eq2 : goal.returns-then-WIDTH-eq2
returns-then-WIDTH-eq2 g c =
    c.from_words.ensures
    ∙ two_words c.args.endianness c.args.bytes.now c.args.at c.word_pair_at-words.result.0 c.word_pair_at-words.result.1 0 g.T.Item.WIDTH (sym c.WIDTH.ensures ∙ c.if-WIDTH-eq2.true) c.word_pair_at-words.ensures.first c.word_pair_at-words.ensures.second

pub returns : goal.returns
returns g c =
    let three : g.T.Item.WIDTH ≡ 3 = elim g.met.T.Item.two_or_three [ inl two ↦ absurd (c.if-WIDTH-eq2.false (c.WIDTH.ensures ∙ two)) | inr is ↦ is ] in
    c.from_words-2.ensures
    ∙ three_words c.args.endianness c.args.bytes.now c.args.at c.word_pair_at-words.result.0 c.word_pair_at-words.result.1 c.word_at.result g.T.Item.WIDTH three c.word_pair_at-words.ensures.first c.word_pair_at-words.ensures.second c.word_at.ensures
