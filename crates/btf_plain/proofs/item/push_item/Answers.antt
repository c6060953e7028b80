use Rattle.std.proofs.Common.{rules, ◌∙◌}
use Rattle.btf_plain.proofs.Padded.{padded_whole}
use Rattle.btf_plain.proofs.item.push_item.Goals as goal

pub returns-else-WIDTH-eq2-clause-written : goal.returns-else-WIDTH-eq2-clause-written
returns-else-WIDTH-eq2-clause-written g c =
    let item = c.args.item.now in
    let whole = c.words-words.ensures ∙ padded_whole g.T.Item.WIDTH (g.T.Item.item_words item) (g.met.T.Item.item_width item) g.met.T.Item.two_or_three (λ two. c.if-WIDTH-eq2.false (c.WIDTH.ensures ∙ two)) in
    search (rules, whole)

pub returns-else-WIDTH-eq2-clause-words_fit : goal.returns-else-WIDTH-eq2-clause-words_fit
returns-else-WIDTH-eq2-clause-words_fit g c =
    let item = c.args.item.now in
    let whole = c.words-words.ensures ∙ padded_whole g.T.Item.WIDTH (g.T.Item.item_words item) (g.met.T.Item.item_width item) g.met.T.Item.two_or_three (λ two. c.if-WIDTH-eq2.false (c.WIDTH.ensures ∙ two)) in
    search (rules, whole)
