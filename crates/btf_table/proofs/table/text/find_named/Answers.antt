use Rattle.std.proofs.Common.{ℕ, Bool, false, Ok, inl, inr, subst}
use Rattle.std.specs.Prelude.{map}
use Rattle.std.proofs.lemmas.Option.{IfSome_then}
use Rattle.btf_model.specs.Text.{FindsName}
use Rattle.btf_plain.proofs.Refused.{handed_on}
use Rattle.btf_plain.specs.Kind as kinds
use Rattle.btf_records.specs.BtfType.{record_of}
use Rattle.btf_table.specs.BtfStr.{HasName, IsNamed}
use Rattle.btf_table.proofs.Names.{begins_otherwise, passed_one, record_at}
use Rattle.btf_table.proofs.table.text.find_named.Goals as goal

pub loop-id-preserved : goal.loop-id-preserved
loop-id-preserved c =
    let types : _ = c.args.types.now in
    let t : _ = c.index-types-id.result in
    passed_one c.args.strings.now (map record_of types) (kinds.kind c.args.kind) c.args.name.now c.loop-id.id (record_of t) c.loop-id.invariant
    (record_at types c.loop-id.id t c.loop-id-test.true c.index-types-id.is)
    (subst (λ (same : Bool). IsNamed c.args.strings.now (kinds.kind c.args.kind) c.args.name.now (record_of t) (Ok same)) c.if-branch.false c.in_ok-has_kind_and_name.ensures)

pub loop-id-preserved-then-begins_otherwise_at : goal.loop-id-preserved-then-begins_otherwise_at
loop-id-preserved-then-begins_otherwise_at c =
    let types : _ = c.args.types.now in
    let t : _ = c.index-types-id.result in
    let byte : _ = c.begins_otherwise_at.ensures c.if-begins_otherwise_at.true in
    passed_one c.args.strings.now (map record_of types) (kinds.kind c.args.kind) c.args.name.now c.loop-id.id (record_of t) c.loop-id.invariant
    (record_at types c.loop-id.id t c.loop-id-test.true c.index-types-id.is)
    (inr (subst (λ (o : ℕ). HasName c.args.strings.now o c.args.name.now (Ok false)) c.name_offset.ensures.value
    (begins_otherwise c.args.strings.now c.args.name.now c.readable_bytes-readable.result.now c.name_offset.result c.first_byte-first.result byte.0 c.comparable_end_in-readable_end.result c.comparable_end_in-readable_end.ensures c.readable_bytes-readable.ensures c.utf8.name c.first_byte-first.ensures byte.1 byte.2)))

pub returns-then-branch : goal.returns-then-branch
returns-then-branch c =
    let types : _ = c.args.types.now in
    let t : _ = c.index-types-id.result in
    let named : _ = subst (λ (same : Bool). IsNamed c.args.strings.now (kinds.kind c.args.kind) c.args.name.now (record_of t) (Ok same)) c.if-branch.true c.in_ok-has_kind_and_name.ensures in
    (record_of t, (c.loop-id.invariant, record_at types c.loop-id.id t c.loop-id-test.true c.index-types-id.is, named.0), named.1)

pub returns-in_err-has_kind_and_name : goal.returns-in_err-has_kind_and_name
returns-in_err-has_kind_and_name c =
    let types : _ = c.args.types.now in
    let t : _ = c.index-types-id.result in
    handed_on (λ id. id) c.in_err-has_kind_and_name.field-0.0 c.from_residual.result (FindsName c.args.strings.now (map record_of types) (kinds.kind c.args.kind) c.args.name.now) c.from_residual.ensures.1
    (IfSome_then _ c.in_err-has_kind_and_name.ensures (λ refusal named. inl (c.loop-id.id, record_of t, (c.loop-id.invariant, record_at types c.loop-id.id t c.loop-id-test.true c.index-types-id.is, named.0), named.1)))
