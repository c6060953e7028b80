use Rattle.std.proofs.Common.{◌≡◌, map, take}
use Rattle.btf_plain.specs.Items.{variant_of_param}
use Rattle.btf_plain.proofs.item_list.many_variants.Given as goal

abbrev pub invariant-loop-param : goal.invariant-loop-param
invariant-loop-param l = l.variants.items ≡ map variant_of_param (take l.param-index l.params.items)
