use Rattle.std.proofs.Common.{◌≡◌, length, map, take}
use Rattle.btf_plain.specs.Items.{variant_of_param}
use Rattle.btf_plain.proofs.item_list.few_variants.Given as goal

abbrev pub invariant-loop-index : goal.invariant-loop-index
invariant-loop-index g l = record {
  places : length l.variants ≡ g.row.N;
  so_far : take l.index l.variants ≡ map variant_of_param (take l.index l.params);
}
