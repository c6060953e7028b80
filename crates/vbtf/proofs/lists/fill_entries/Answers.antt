use Rattle.std.proofs.Common.{◌∙◌, ap, refl}
use Rattle.btf_records.specs.declared.btf_type.BtfType.TheVariants as types
use Rattle.btf_view.specs.Items.{entries, entry_forms}
use Rattle.vbtf.proofs.Listing.{entries_listed, listed, no_entries, unexpected, unknown}
use Rattle.vbtf.proofs.lists.fill_entries.Goals as goal

pub returns-in_err-t : goal.returns-in_err-t
returns-in_err-t c =
    unknown entries c.args.table.now.records c.args.id c.args.out.now c.in_err-t.field-0.0 c.from_residual.result c.from_residual.ensures.1 c.in_err-t.ensures.0 c.in_err-t.ensures.1

pub returns-in-DataSec : goal.returns-in-DataSec
returns-in-DataSec c =
    let t = c.in-DataSec.t in let xs = c.entries.result.now in
    listed entries c.args.table.now.records c.args.id c.in_ok-t.field-0.now (types.DataSec t) (entry_forms t.tail) _ c.args.out.now c.fill_forms.new.out c.fill_forms.result
    c.in_ok-t.ensures.record_is c.in_ok-t.ensures.kind_is c.in-DataSec.is refl
    (ap entry_forms c.entries.ensures.words ∙ entries_listed xs)
    c.fill_forms.ensures

pub returns-in_default : goal.returns-in_default
returns-in_default c =
    unexpected entries c.args.table.now.records c.args.id c.in_ok-t.field-0.now c.args.out.now c.in_ok-t.ensures.record_is c.in_ok-t.ensures.kind_is
    (no_entries c.in_ok-t.field-0.now c.in_default.not-DataSec)
