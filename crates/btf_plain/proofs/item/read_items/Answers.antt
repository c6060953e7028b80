use Rattle.btf_plain.proofs.Lists.{more_items, items_cut}
use Rattle.btf_plain.proofs.item.read_items.Goals as goal

pub returns-in_err-item : goal.returns-in_err-item
returns-in_err-item g c =
    items_cut (λ v. v.items) g.T.Item.WIDTH g.T.Item.item_words c.args.endianness c.args.bytes.now c.loop.counter c.args.count c.loop.items.items c.loop.rest.now c.in_err-item.field-0.0 c.from_residual-in_err-item.result c.loop.invariant c.loop-test.true c.in_err-item.ensures.0 c.in_err-item.ensures.1 c.from_residual-in_err-item.ensures.1

pub loop-preserved : goal.loop-preserved
loop-preserved g c =
    more_items g.T.Item.WIDTH g.T.Item.item_words c.args.endianness c.args.bytes.now c.loop.counter c.loop.items.items c.push.new.self.items c.loop.rest.now c.in_ok-item.behind.now c.in_ok-item.item c.loop.invariant c.in_ok-item.ensures.0 c.in_ok-item.ensures.1 c.in_ok-item.ensures.2 c.in_ok-push.ensures.items
