use Rattle.std.proofs.Common.{◌∙◌, ◌+◌, ◌*◌, ◌^◌, ap, refl, sym, ℕ}
use Rattle.std.specs.Prelude.{map}
use Rattle.btf_plain.specs.declared.items.BtfEnum.{BtfEnum}
use Rattle.btf_plain.specs.declared.items.BtfEnum64.{BtfEnum64}
use Rattle.btf_records.specs.declared.btf_type.BtfType.TheVariants as types
use Rattle.btf_view.specs.Items.{variant_form, variants, variant_forms, wide_variant_forms}
use Rattle.vbtf.proofs.Listing.{listed, no_variants, unexpected, unknown, variants_listed, wide_variants_listed}
use Rattle.vbtf.proofs.lists.fill_variants.Goals as goal

pub returns-in_err-t : goal.returns-in_err-t
returns-in_err-t c =
    unknown variants c.args.table.now.records c.args.id c.args.out.now c.in_err-t.field-0.0 c.from_residual.result c.from_residual.ensures.1 c.in_err-t.ensures.0 c.in_err-t.ensures.1

pub returns-in-Enum : goal.returns-in-Enum
returns-in-Enum c =
    let t = c.in-Enum.t in let xs = c.variants.result.now in
    listed variants c.args.table.now.records c.args.id c.in_ok-t.field-0.now (types.Enum t) (variant_forms t.info t.tail) _ c.args.out.now c.fill_forms.new.out c.fill_forms.result
    c.in_ok-t.ensures.record_is c.in_ok-t.ensures.kind_is c.in-Enum.is refl
    (ap (variant_forms t.info) c.variants.ensures.words ∙ variants_listed t.info xs ∙ ap (λ (info : ℕ). map (λ (x : BtfEnum). variant_form info 32 x.name_offset x.value) xs) (sym c.info.ensures.value))
    c.fill_forms.ensures

pub returns-in-Enum64 : goal.returns-in-Enum64
returns-in-Enum64 c =
    let t = c.in-Enum64.t in let xs = c.variants-in-Enum64.result.now in
    listed variants c.args.table.now.records c.args.id c.in_ok-t.field-0.now (types.Enum64 t) (wide_variant_forms t.info t.tail) _ c.args.out.now c.fill_forms-in-Enum64.new.out c.fill_forms-in-Enum64.result
    c.in_ok-t.ensures.record_is c.in_ok-t.ensures.kind_is c.in-Enum64.is refl
    (ap (wide_variant_forms t.info) c.variants-in-Enum64.ensures.words ∙ wide_variants_listed t.info xs ∙ ap (λ (info : ℕ). map (λ (x : BtfEnum64). variant_form info 64 x.name_offset (x.value_high * 2 ^ 32 + x.value_low)) xs) (sym c.info-in-Enum64.ensures.value))
    c.fill_forms-in-Enum64.ensures

pub returns-in_default : goal.returns-in_default
returns-in_default c =
    unexpected variants c.args.table.now.records c.args.id c.in_ok-t.field-0.now c.args.out.now c.in_ok-t.ensures.record_is c.in_ok-t.ensures.kind_is
    (no_variants c.in_ok-t.field-0.now c.in_default.not-Enum c.in_default.not-Enum64)
