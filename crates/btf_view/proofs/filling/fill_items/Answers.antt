use Rattle.std.proofs.Common.{◌≡◌, ◌∙◌, ◌<◌, ◌+◌, ◌*◌, ℕ, length, min, set, drop, sym, ap, subst, arith}
use Rattle.std.proofs.Math.Nat.{min-le_left}
use Rattle.btf_model.specs.Record.{vlen}
use Rattle.btf_model.specs.Word.{words_at}
use Rattle.btf_view.proofs.Fills.{FormsSoFar, no_forms, more_forms, all_forms}
use Rattle.btf_view.proofs.filling.fill_items.Goals as goal

pub loop-index-init : goal.loop-index-init
loop-index-init g c = no_forms g.T.Item.WIDTH g.T.Item.item_words (g.T.Listed.form c.args.info) c.args.endianness c.args.tail.now c.args.out.now

pub loop-index-preserved : goal.loop-index-preserved
loop-index-preserved g c =
    let Form = g.row.T-Form.Denot in
    let W = g.T.Item.WIDTH in
    let form = g.T.Listed.form c.args.info in
    let order = c.args.endianness in
    let tail = c.args.tail.now in
    let i = c.loop-index.index in
    let room : i < length c.loop-index.out = omega (arith, c.loop-index-test.true, c.loop-index.auto.out, c.min-count.ensures, min-le_left (length c.args.out.now) c.vlen_of-vlen.result) in
    subst (λ (x : Form). FormsSoFar W g.T.Item.item_words form order tail c.args.out.now (set c.loop-index.out i x) (i + 1)) (sym c.form.ensures)
    (more_forms W g.T.Item.item_words form order tail c.args.out.now c.loop-index.out i c.item_at.result c.loop-index.invariant room
    (c.item_at.ensures ∙ ap (λ (n : ℕ). words_at order W (drop n tail)) c.items_len-at.ensures))

pub returns-clause-items : goal.returns-clause-items
returns-clause-items g c long =
    let W = g.T.Item.WIDTH in
    let info = c.args.info in
    let form = g.T.Listed.form info in
    let old = c.args.out.now in
    let k = c.min-count.result in
    let end : c.loop-index.index ≡ k = omega (arith, c.loop-index-test.false, c.loop-index.auto.index-end) in
    let all = subst (FormsSoFar W g.T.Item.item_words form c.args.endianness c.args.tail.now old c.loop-index.out) end c.loop-index.invariant in
    all_forms W g.T.Item.item_words form (g.T.Listed.forms_in info) c.args.endianness c.args.tail.now old c.loop-index.out k (vlen info)
    (g.met.T.Listed.next_form info) (g.met.T.Listed.no_form info) all (c.min-count.ensures ∙ ap (min (length old)) c.vlen_of-vlen.ensures.value)

pub returns-then-tail-items_len-clause-items : goal.returns-then-tail-items_len-clause-items
returns-then-tail-items_len-clause-items g c long =
    let wide : c.items_len.result ≡ 4 * (g.T.Item.WIDTH * vlen c.args.info) = c.items_len.ensures ∙ ap (λ (n : ℕ). 4 * (g.T.Item.WIDTH * n)) c.vlen_of-vlen.ensures.value in
    absurd (omega (arith, wide, long, c.if-tail-items_len.true))
