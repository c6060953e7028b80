use Rattle.std.proofs.Common.{ℕ, length, ap, sym, ◌∙◌}
use Rattle.btf_model.specs.Record.{vlen}
use Rattle.btf_plain.proofs.Padded.{some_word}
use Rattle.btf_plain.proofs.Tails.{items_counted}
use Rattle.btf_plain.proofs.record.Record.items.Goals as goal

pub returns-clause-count : goal.returns-clause-count
returns-clause-count g c =
    let tail = c.self.inside.tail in
    let v : ℕ = vlen c.self.inside.head.info in
    let words = ap length (sym (g.met.K.Tail.Items.words_listed tail)) ∙ c.self.invariant.1 ∙ g.met.K.Kind.tail_number v ∙ g.met.K.Tail.Items.number_listed v in
    ap (λ r. vlen r.info) (sym c.self.view_is)
    ∙ sym (items_counted g.K.Tail.Element.Item.WIDTH g.K.Tail.Element.Item.item_words g.met.K.Tail.Element.Item.item_width (some_word g.K.Tail.Element.Item.WIDTH g.met.K.Tail.Element.Item.two_or_three) (g.K.Tail.Items.listed tail) v words)
    ∙ ap length (sym c.items.ensures)
