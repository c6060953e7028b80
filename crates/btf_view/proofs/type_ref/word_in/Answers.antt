use Rattle.std.proofs.Common.{◌≡◌, ◌∙◌, ℕ, ◌/◌, ◌%◌, ◌≤◌, List, length, Some, refl, sym, ap, subst}
use Rattle.std.specs.Prelude.{get_or, slice_get}
use Rattle.std.proofs.lemmas.Option.{slice_get_read}
use Rattle.btf_view.proofs.Words.{word_found, word_missing}
use Rattle.btf_view.proofs.type_ref.word_in.Goals as goal

pub returns-in-Some : goal.returns-in-Some
returns-in-Some g c =
    let item = g.met.T.Item in
    let i = c.args.index in
    let xs = c.args.items.now in
    let found = c.in-Some.ensures.lookup in
    let place : i / c.WIDTH.result ≡ i / g.T.Item.WIDTH = ap (λ (w : ℕ). i / w) c.WIDTH.ensures in
    let here = ap (slice_get xs) (sym place) ∙ slice_get_read xs (length xs) (i / c.WIDTH.result) c.in-Some.item.now refl found.3.0 found.1 in
    ap (λ (w : ℕ). Some (get_or c.words.result (i % w) 0)) c.WIDTH-in-Some.ensures ∙ ap (λ (ws : List ℕ). Some (get_or ws (i % g.T.Item.WIDTH) 0)) c.words.ensures
    ∙ sym (word_found g.T.Item.WIDTH i g.T.Item.item_words item.item_width item.two_or_three xs c.in-Some.item.now here)

pub returns-in-None : goal.returns-in-None
returns-in-None g c =
    let w = c.WIDTH.ensures in
    sym (word_missing g.T.Item.WIDTH c.args.index g.T.Item.item_words g.met.T.Item.item_width c.args.items.now (subst (λ (w : ℕ). length c.args.items.now ≤ c.args.index / w) w c.in-None.ensures.lookup.3))
