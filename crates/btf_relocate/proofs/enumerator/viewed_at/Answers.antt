use Rattle.std.proofs.Common.{◌∙◌, List, sym, ap, arith}
use Rattle.std.specs.Prelude.{slice_get}
use Rattle.std.proofs.lemmas.Option.{slice_get_past}
use Rattle.btf_model.specs.Record.{kind_of}
use Rattle.btf_model.specs.Table.{Variant}
use Rattle.btf_view.specs.TypeRef.{record_in}
use Rattle.btf_relocate.specs.Enumerators.{type_enumerators}
use Rattle.btf_relocate.proofs.Items.{narrow_has, wide_has, no_enumerators}
use Rattle.btf_relocate.proofs.enumerator.viewed_at.Goals as goal

pub returns-then-index-count : goal.returns-then-index-count
returns-then-index-count c =
    sym (slice_get_past (type_enumerators (record_in c.args.btf_type.now)) c.args.index (omega (arith, c.count.ensures.value, c.if-index-count.true)))

pub returns-in-Enum : goal.returns-in-Enum
returns-in-Enum c =
    let r = record_in c.args.btf_type.now in
    c.narrow_at.ensures ∙ ap (λ (vs : List Variant). slice_get vs c.args.index) (sym (narrow_has c.kind.result (kind_of r.info) r.tail c.kind.ensures.info c.in-Enum.is))

pub returns-in-Enum64 : goal.returns-in-Enum64
returns-in-Enum64 c =
    let r = record_in c.args.btf_type.now in
    c.wide_at.ensures ∙ ap (λ (vs : List Variant). slice_get vs c.args.index) (sym (wide_has c.kind.result (kind_of r.info) r.tail c.kind.ensures.info c.in-Enum64.is))

pub returns-in_default : goal.returns-in_default
returns-in_default c =
    let r = record_in c.args.btf_type.now in
    sym (ap (λ (vs : List Variant). slice_get vs c.args.index) (no_enumerators c.kind.result (kind_of r.info) r.tail c.kind.ensures.info c.in_default.not-Enum c.in_default.not-Enum64))
