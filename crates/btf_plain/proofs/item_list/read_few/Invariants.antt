use Rattle.std.proofs.Common.{◌≡◌, length, take}
use Rattle.btf_plain.proofs.Lists.{ItemsSoFar}
use Rattle.btf_plain.proofs.item_list.read_few.Given as goal

abbrev pub invariant-loop-index : goal.invariant-loop-index
invariant-loop-index g l = record {
  places : length l.items ≡ g.row.N;
  so_far : ItemsSoFar g.T.Item.WIDTH g.T.Item.item_words l.endianness l.bytes l.index (take l.index l.items) l.rest;
}
