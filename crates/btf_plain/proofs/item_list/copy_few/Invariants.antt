use Rattle.std.proofs.Common.{◌≡◌, length, take}
use Rattle.btf_plain.proofs.item_list.copy_few.Given as goal

abbrev pub invariant-loop-index : goal.invariant-loop-index
invariant-loop-index g l = record {
  places : length l.copies ≡ g.row.N;
  same : take l.index l.copies ≡ take l.index l.items;
}
