use Rattle.std.proofs.Common.{◌∙◌, Some, sym, ap}
use Rattle.std.specs.Option.{option_map}
use Rattle.btf_model.specs.Table.{Variant}
use Rattle.btf_view.specs.TypeRef.{record_in}
use Rattle.btf_relocate.specs.Enumerators.{narrow_variant}
use Rattle.btf_relocate.proofs.Items.{narrow_item}
use Rattle.btf_relocate.proofs.enumerator.narrow_at.Goals as goal

pub returns-in-Some : goal.returns-in-Some
returns-in-Some c =
    ap (λ (v : Variant). Some v) c.narrow.ensures
    ∙ sym (ap (option_map narrow_variant) c.in-Some.is) ∙ narrow_item (record_in c.args.btf_type.now).tail c.args.index c.item.result c.item.ensures

pub returns-in-None : goal.returns-in-None
returns-in-None c =
    sym (ap (option_map narrow_variant) c.in-None.is) ∙ narrow_item (record_in c.args.btf_type.now).tail c.args.index c.item.result c.item.ensures
