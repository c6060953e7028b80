-- The items of a list. A few items are stored in a record itself.
use Rattle.std.specs.Prelude.{ℕ, ◌+◌, ◌*◌, ◌^◌, Bool, List, length, take}
use Rattle.std.specs.List.{flat_map}
use Rattle.btf_model.specs.Info.{flag_bit}
use Rattle.btf_model.specs.Record.{Record}
use Rattle.btf_plain.specs.declared.item_list.ItemList.{ItemList}
use Rattle.btf_plain.specs.declared.item_list.ItemList.TheVariants.{Few, Many}

-- the items of a list, stored in the record itself or in a vector
abbrev pub items_of : {T : Type 0} {N : ℕ} → ItemList T N → List T
items_of (Few count items) = take count items
items_of (Many items) = items.items

-- the record of the kind of this number, with this kind flag and these items
abbrev pub listing : {X : Type 0} → ℕ → ℕ → Bool → ℕ → (X → List ℕ) → List X → Record
listing number name flag third item_words items = record {
  name = name;
  info = number * 2 ^ 24 + length items + flag_bit flag;
  third = third;
  tail = flat_map item_words items;
}
