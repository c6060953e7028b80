use Rattle.std.proofs.Common.{◌≡◌, length, take}
use Rattle.btf_plain.proofs.item_list.ItemList.from_vec.Given as goal

abbrev pub invariant-loop-index : goal.invariant-loop-index
invariant-loop-index g l = record {
  places : length l.few ≡ g.row.N;
  same : take l.index l.few ≡ take l.index l.items.items;
}
