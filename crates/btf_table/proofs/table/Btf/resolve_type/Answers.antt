use Rattle.std.proofs.Common.{◌≡◌, ◌∙◌, List, ap, subst, map}
use Rattle.btf_model.specs.Record.{Record}
use Rattle.btf_model.specs.Walk.{Resolves}
use Rattle.btf_model.specs.Table.{Table}
use Rattle.btf_plain.specs.Error.{Meets}
use Rattle.btf_records.specs.BtfType.{record_of}
use Rattle.btf_table.proofs.table.Btf.resolve_type.Goals as goal

pub returns : goal.returns
returns c =
    let records : map record_of c.deref.result.now ≡ c.args.self.now.records = ap (map record_of) c.deref.ensures.value ∙ ap (λ (t : Table). t.records) c.self.view_is in
    subst (λ (rs : List Record). Meets (λ id. id) c.resolve.result (Resolves rs c.args.type_id)) records c.resolve.ensures
