use Rattle.btf_plain.proofs.Lists.{ItemsSoFar}
use Rattle.btf_plain.proofs.item.read_items.Given as goal

abbrev pub invariant-loop : goal.invariant-loop
invariant-loop g l = ItemsSoFar g.T.Item.WIDTH g.T.Item.item_words l.endianness l.bytes l.counter l.items.items l.rest
