use Rattle.std.proofs.Common.{◌∙◌, ap, refl}
use Rattle.btf_records.specs.declared.btf_type.BtfType.TheVariants as types
use Rattle.btf_view.specs.Items.{params, param_forms}
use Rattle.vbtf.proofs.Listing.{listed, no_params, params_listed, unexpected, unknown}
use Rattle.vbtf.proofs.lists.fill_params.Goals as goal

pub returns-in_err-t : goal.returns-in_err-t
returns-in_err-t c =
    unknown params c.args.table.now.records c.args.id c.args.out.now c.in_err-t.field-0.0 c.from_residual.result c.from_residual.ensures.1 c.in_err-t.ensures.0 c.in_err-t.ensures.1

pub returns-in-FuncProto : goal.returns-in-FuncProto
returns-in-FuncProto c =
    let t = c.in-FuncProto.t in let xs = c.params.result.now in
    listed params c.args.table.now.records c.args.id c.in_ok-t.field-0.now (types.FuncProto t) (param_forms t.tail) _ c.args.out.now c.fill_forms.new.out c.fill_forms.result
    c.in_ok-t.ensures.record_is c.in_ok-t.ensures.kind_is c.in-FuncProto.is refl
    (ap param_forms c.params.ensures.words ∙ params_listed xs)
    c.fill_forms.ensures

pub returns-in_default : goal.returns-in_default
returns-in_default c =
    unexpected params c.args.table.now.records c.args.id c.in_ok-t.field-0.now c.args.out.now c.in_ok-t.ensures.record_is c.in_ok-t.ensures.kind_is
    (no_params c.in_ok-t.field-0.now c.in_default.not-FuncProto)
