use Rattle.std.proofs.Common.{ap, refl}
use Rattle.btf_model.specs.Record as model
use Rattle.btf_plain.specs.Kind.{kind}
use Rattle.btf_view.specs.Items.{params, param_forms}
use Rattle.btf_view.proofs.KindNames.{no_params}
use Rattle.btf_view.proofs.Listing.{items_listed, unlisted, other_kind}
use Rattle.btf_view.proofs.view.View.params.Goals as goal

pub returns-in_err-kind : goal.returns-in_err-kind
returns-in_err-kind c records h =
    unlisted params records c.args.type_id c.in_err-kind.field-0.0 c.args.out.now c.from_residual.result c.from_residual.ensures.1 (c.in_err-kind.ensures records h)

pub returns-in-FuncProto : goal.returns-in-FuncProto
returns-in-FuncProto c records h =
    let found = c.in_ok-kind.ensures records h in
    items_listed params (λ info words. param_forms words) 2 c.args.self.now.endianness records c.args.type_id c.fill_items.result c.in_ok-kind.field-0 found.0 model.FuncProto c.args.out.now c.fill_items.new.out
    found.1 found.2 (ap kind c.in-FuncProto.is) (λ e. cc) (λ n. refl) refl c.fill_items.ensures.items

pub returns-in_default : goal.returns-in_default
returns-in_default c records h =
    let found = c.in_ok-kind.ensures records h in
    other_kind params c.args.self.now.endianness records c.args.type_id c.in_ok-kind.field-0 found.0 c.args.out.now found.1 found.2 (no_params c.in_ok-kind.field-0.kind found.0 c.in_default.not-FuncProto)
