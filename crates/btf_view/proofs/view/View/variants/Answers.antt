use Rattle.std.proofs.Common.{ap, refl}
use Rattle.btf_model.specs.Record as model
use Rattle.btf_plain.specs.Kind.{kind}
use Rattle.btf_view.specs.Items.{variants, variant_forms, wide_variant_forms}
use Rattle.btf_view.proofs.KindNames.{no_variants}
use Rattle.btf_view.proofs.Listing.{items_listed, unlisted, other_kind}
use Rattle.btf_view.proofs.view.View.variants.Goals as goal

pub returns-in_err-kind : goal.returns-in_err-kind
returns-in_err-kind c records h =
    unlisted variants records c.args.type_id c.in_err-kind.field-0.0 c.args.out.now c.from_residual.result c.from_residual.ensures.1 (c.in_err-kind.ensures records h)

pub returns-in-Enum : goal.returns-in-Enum
returns-in-Enum c records h =
    let found = c.in_ok-kind.ensures records h in
    items_listed variants variant_forms 2 c.args.self.now.endianness records c.args.type_id c.fill_items.result c.in_ok-kind.field-0 found.0 model.Enum c.args.out.now c.fill_items.new.out
    found.1 found.2 (ap kind c.in-Enum.is) (λ e. cc) (λ n. refl) refl c.fill_items.ensures.items

pub returns-in-Enum64 : goal.returns-in-Enum64
returns-in-Enum64 c records h =
    let found = c.in_ok-kind.ensures records h in
    items_listed variants wide_variant_forms 3 c.args.self.now.endianness records c.args.type_id c.fill_items-in-Enum64.result c.in_ok-kind.field-0 found.0 model.Enum64 c.args.out.now c.fill_items-in-Enum64.new.out
    found.1 found.2 (ap kind c.in-Enum64.is) (λ e. cc) (λ n. refl) refl c.fill_items-in-Enum64.ensures.items

pub returns-in_default : goal.returns-in_default
returns-in_default c records h =
    let found = c.in_ok-kind.ensures records h in
    other_kind variants c.args.self.now.endianness records c.args.type_id c.in_ok-kind.field-0 found.0 c.args.out.now found.1 found.2 (no_variants c.in_ok-kind.field-0.kind found.0 c.in_default.not-Enum c.in_default.not-Enum64)
