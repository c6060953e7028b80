use Rattle.std.proofs.Common.{◌∙◌, ℕ, ◌<◌, length, take, ap, sym, refl}
use Rattle.std.proofs.Math.Nat.{mul-lt-mul_of_pos_left}
use Rattle.std.proofs.lemmas.Option.{slice_get_read}
use Rattle.btf_plain.proofs.Padded.{first_words, some_word}
use Rattle.vbtf.proofs.Groups.{group_at}
use Rattle.vbtf.proofs.items.nth.Goals as goal

pub returns-in-Some : goal.returns-in-Some
returns-in-Some g c =
    let T = g.T.Item in let laws = g.met.T.Item in
    let w = T.WIDTH in
    let item = c.in-Some.item.now in
    let found = c.in-Some.ensures.lookup in
    let lt : c.args.index < length c.args.items.now = found.3.0 in
    let same = group_at w T.item_words laws.item_width c.args.items.now c.args.index item
    (slice_get_read c.args.items.now (length c.args.items.now) c.args.index item refl lt found.1) in
    let first = first_words w (T.item_words item) (laws.item_width item) laws.two_or_three in
    let words = ap (λ (n : ℕ). take n c.words.result) c.WIDTH.ensures ∙ ap (take w) c.words.ensures ∙ first ∙ sym same in
    (mul-lt-mul_of_pos_left lt (some_word w laws.two_or_three), (c.WIDTH.ensures ∙ sym (ap length same ∙ laws.item_width item), words))
