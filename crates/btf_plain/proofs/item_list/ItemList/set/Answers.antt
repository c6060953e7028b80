use Rattle.std.proofs.Common.{◌≡◌, ◌<◌, length, min, take, set, ap, sym, ◌∙◌, arith}
use Rattle.std.proofs.lemmas.List.{length-take}
use Rattle.std.proofs.Math.Seq.{take-set-lt}
use Rattle.btf_plain.specs.ItemList.{items_of}
use Rattle.btf_plain.proofs.item_list.ItemList.set.Goals as goal

pub returns-in-Few : goal.returns-in-Few
returns-in-Few g c =
    let few : length (take c.in-Few.field-0 c.in-Few.items) ≡ min c.in-Few.field-0 (length c.in-Few.items) = length-take c.in-Few.field-0 c.in-Few.items in
    let lt : c.args.index < c.in-Few.field-0 = omega (arith, c.requires, ap (λ v. length (items_of v)) c.in-Few.is, few) in
    ap (λ xs. take c.in-Few.field-0 (set xs c.args.index c.args.item)) c.as_mut_slice.ensures.value
    ∙ take-set-lt c.in-Few.field-0 c.in-Few.items c.args.index c.args.item lt
    ∙ ap (λ v. set (items_of v) c.args.index c.args.item) (sym c.in-Few.is)
