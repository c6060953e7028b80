use Rattle.std.proofs.Common.{ℕ, ◌<◌, ◌+◌, ◌*◌, ◌^◌, length, ap, sym, ◌∙◌, arith}
use Rattle.std.specs.Prelude.{slice_get}
use Rattle.btf_model.specs.Info.{flag_bit}
use Rattle.btf_model.specs.Record.{kinds as all_kinds, kind_of, vlen, tail_words}
use Rattle.btf_plain.specs.Kind as kinds
use Rattle.btf_plain.proofs.Lists.{length-items}
use Rattle.btf_plain.proofs.Infos.{new_kind, new_vlen, listed_info}
use Rattle.btf_plain.proofs.record.Record.listing.Goals as goal

pub of-requires-clause-kind : goal.of-requires-clause-kind
of-requires-clause-kind g c =
    let n : ℕ = length c.items.result.now in
    let few : n < 2 ^ 16 = omega (arith, c.requires.few, ap length c.items.ensures) in
    ap kind_of (listed_info c.args.number n c.flag_word.result c.args.flag c.requires.small few c.flag_word.ensures)
    ∙ ap (slice_get all_kinds) (new_kind c.args.number n c.args.flag c.requires.small few) ∙ c.requires.kind

pub of-requires-clause-tail : goal.of-requires-clause-tail
of-requires-clause-tail g c =
    let k = kinds.kind g.K.Kind.KIND in
    let w : ℕ = g.K.Tail.Element.Item.WIDTH in
    let n : ℕ = length c.items.result.now in
    let few : n < 2 ^ 16 = omega (arith, c.requires.few, ap length c.items.ensures) in
    let listed = g.K.Tail.Items.listed c.args.tail in
    ap length (g.met.K.Tail.Items.words_listed c.args.tail) ∙ length-items w g.K.Tail.Element.Item.item_words g.met.K.Tail.Element.Item.item_width listed
    ∙ sym (g.met.K.Tail.Items.number_listed (length listed)) ∙ sym (g.met.K.Kind.tail_number (length listed)) ∙ ap (λ (xs : _). tail_words k (length xs)) (sym c.items.ensures)
    ∙ ap (tail_words k) (sym (ap vlen (listed_info c.args.number n c.flag_word.result c.args.flag c.requires.small few c.flag_word.ensures) ∙ new_vlen c.args.number n c.args.flag c.requires.small few))

pub returns : goal.returns
returns g c =
    let n : ℕ = length c.items.result.now in
    let few : n < 2 ^ 16 = omega (arith, c.requires.few, ap length c.items.ensures) in
    let info = listed_info c.args.number n c.flag_word.result c.args.flag c.requires.small few c.flag_word.ensures
    ∙ ap (λ (m : ℕ). c.args.number * 2 ^ 24 + m + flag_bit c.args.flag) (ap length c.items.ensures) in
    c.of.ensures ∙ (λ i. record { name = c.args.name; info = info i; third = c.args.third; tail = g.met.K.Tail.Items.words_listed c.args.tail i })
