use Rattle.std.proofs.Common.{set, subst, sym, refl, ap, ◌∙◌}
use Rattle.std.specs.Vec.{with_item}
use Rattle.btf_model.specs.Table.{Table}
use Rattle.btf_records.specs.BtfType.{record_of, fallback_of}
use Rattle.btf_table.specs.Btf.{HasShapeOf}
use Rattle.btf_table.proofs.Replaced.{consistent_set, table_set}
use Rattle.btf_table.proofs.table.set_type.Goals as goal

pub invariant_of-table : goal.invariant_of-table
invariant_of-table c =
    consistent_set c.table.inside _ c.args.type_id c.args.btf_type c.table.invariant
    (subst (λ (t : Table). HasShapeOf t c.args.type_id (record_of c.args.btf_type)) (sym c.table.view_is) c.requires) c.kind.ensures.info refl

pub returns : goal.returns
returns c =
    table_set c.table.inside (with_item c.table.inside.types c.args.type_id c.args.btf_type) c.args.type_id c.args.btf_type refl
    ∙ ap (λ (t : Table). record t { records = set t.records c.args.type_id (record_of c.args.btf_type); fallbacks = set t.fallbacks c.args.type_id (fallback_of c.args.btf_type) }) c.table.view_is
