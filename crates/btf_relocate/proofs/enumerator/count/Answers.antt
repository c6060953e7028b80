use Rattle.std.proofs.Common.{◌∙◌, List, length, sym, ap}
use Rattle.btf_model.specs.Record.{kind_of, vlen}
use Rattle.btf_model.specs.Table.{Variant}
use Rattle.btf_view.specs.TypeRef.{record_in}
use Rattle.btf_relocate.proofs.Items.{narrow_counted, wide_counted, no_enumerators}
use Rattle.btf_relocate.proofs.enumerator.count.Goals as goal

pub returns-in-Enum-clause-value : goal.returns-in-Enum-clause-value
returns-in-Enum-clause-value c =
    let r = record_in c.args.btf_type.now in
    c.vlen.ensures.value ∙ narrow_counted c.kind.result (kind_of r.info) (vlen r.info) r.tail c.kind.ensures.info c.in-Enum.is c.kind.ensures.tail

pub returns-in-Enum64-clause-value : goal.returns-in-Enum64-clause-value
returns-in-Enum64-clause-value c =
    let r = record_in c.args.btf_type.now in
    c.vlen-in-Enum64.ensures.value ∙ wide_counted c.kind.result (kind_of r.info) (vlen r.info) r.tail c.kind.ensures.info c.in-Enum64.is c.kind.ensures.tail

pub returns-in_default-clause-value : goal.returns-in_default-clause-value
returns-in_default-clause-value c =
    let r = record_in c.args.btf_type.now in
    sym (ap (λ (vs : List Variant). length vs) (no_enumerators c.kind.result (kind_of r.info) r.tail c.kind.ensures.info c.in_default.not-Enum c.in_default.not-Enum64))
