use Rattle.std.proofs.Common.{◌≡◌, ◌++◌, ◌<◌, ◌^◌, take}
use Rattle.std.specs.List.{flat_map, AllByRecursion}
use Rattle.btf_model.specs.Word.{word}
use Rattle.btf_plain.proofs.item.push_items.Given as goal

abbrev pub invariant-loop-item : goal.invariant-loop-item
invariant-loop-item g l = record {
  written : l.out.items ≡ l.fn.out.items ++ flat_map (word l.endianness) (flat_map g.T.Item.item_words (take l.item-index l.items));
  fits : AllByRecursion (λ w. w < 2 ^ 32) (flat_map g.T.Item.item_words (take l.item-index l.items));
}
