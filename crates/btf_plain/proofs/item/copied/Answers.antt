use Rattle.std.proofs.Common.{ap, take, ◌∙◌}
use Rattle.btf_plain.proofs.Padded.{first_words}
use Rattle.btf_plain.proofs.item.copied.Goals as goal

pub returns : goal.returns
returns g c =
    let item = c.args.item.now in
    let w = g.T.Item.WIDTH in
    let same = first_words w (g.T.Item.item_words item) (g.met.T.Item.item_width item) g.met.T.Item.two_or_three in
    g.met.T.Item.same_item c.from_words.result item (c.from_words.ensures ∙ ap (take w) c.words.ensures ∙ same)
