use Rattle.std.proofs.Common.{map, take, sym, ap, ◌∙◌}
use Rattle.std.proofs.lemmas.List.{take-map}
use Rattle.btf_plain.specs.ItemList.{items_of}
use Rattle.btf_plain.specs.Items.{variant_of_param}
use Rattle.btf_plain.proofs.item_list.as_variants.Goals as goal

pub returns-in-Few : goal.returns-in-Few
returns-in-Few g c =
    ap (take c.in-Few.count) c.few_variants.ensures ∙ take-map variant_of_param c.in-Few.count c.in-Few.params
    ∙ ap (λ v. map variant_of_param (items_of v)) (sym c.in-Few.is)
