use Rattle.std.proofs.Common.{◌<◌, ◌+◌, take, set, length, ◌∙◌, arith}
use Rattle.std.proofs.lemmas.List.{length-set, take_more_set}
use Rattle.btf_plain.proofs.Lists.{items_cut, more_items}
use Rattle.btf_plain.proofs.item_list.read_few.Goals as goal

pub returns-in_err-item : goal.returns-in_err-item
returns-in_err-item g c =
    items_cut (take c.args.count) g.T.Item.WIDTH g.T.Item.item_words c.args.endianness c.args.bytes.now c.loop-index.index c.args.count (take c.loop-index.index c.loop-index.items) c.loop-index.rest.now c.in_err-item.field-0.0 c.from_residual.result c.loop-index.invariant.so_far c.loop-index-test.true c.in_err-item.ensures.0 c.in_err-item.ensures.1 c.from_residual.ensures.1

pub loop-index-preserved : goal.loop-index-preserved
loop-index-preserved g c =
    let xs = c.loop-index.items in
    let i = c.loop-index.index in
    let lt : i < length xs = omega (arith, c.loop-index.invariant.places, c.loop-index-test.true, c.requires) in
    record {
      places = length-set xs i c.in_ok-item.item ∙ c.loop-index.invariant.places;
      so_far = more_items g.T.Item.WIDTH g.T.Item.item_words c.args.endianness c.args.bytes.now i (take i xs) (take (i + 1) (set xs i c.in_ok-item.item)) c.loop-index.rest.now c.in_ok-item.after.now c.in_ok-item.item c.loop-index.invariant.so_far c.in_ok-item.ensures.0 c.in_ok-item.ensures.1 c.in_ok-item.ensures.2 (take_more_set xs i c.in_ok-item.item lt);
    }
