use Rattle.std.proofs.Common.{◌∙◌, ◌≡◌, ◌<◌, Bool, Ok, length, refl, subst, arith, inr, sym}
use Rattle.std.proofs.Math.Nat.{min-le_left, min-eq_left}
use Rattle.btf_model.specs.Text.{ArePassed}
use Rattle.btf_plain.specs.Kind as kinds
use Rattle.btf_table.specs.BtfStr.{HasName}
use Rattle.btf_view.proofs.Found.{seen_at, same_kind, other_kind, other_name, found_there, passed_other, unread_there}
use Rattle.btf_view.proofs.Places.{as_many_places}
use Rattle.btf_view.proofs.finding.find_in.Goals as goal

pub loop-id-init : goal.loop-id-init
loop-id-init c records h low r lt is = absurd (omega (arith, lt))

pub loop-id-preserved-then-is_other : goal.loop-id-preserved-then-is_other
loop-id-preserved-then-is_other c records h =
    let places = c.args.places.now in
    let low : c.loop-id.id < length places = omega (arith, c.loop-id-test.true, c.min-ids.ensures, min-le_left (length places) 4294967295) in
    let s = seen_at c.args.endianness c.args.types.now places records c.loop-id.id c.raw_head_at-raw.result h low c.raw_head_at-raw.ensures in
    passed_other c.args.strings.now c.readable_bytes-readable.result.now records c.loop-id.id c.number_of-number.result c.first_byte-first.result c.comparable_end_in-end.result c.raw_head_at-raw.result (kinds.kind c.args.kind) c.args.name.now s c.number_of-number.ensures c.if-number-ne0.true
    c.comparable_end_in-end.ensures c.readable_bytes-readable.ensures c.utf8.name c.first_byte-first.ensures (c.if-is_other.ensures refl) (c.loop-id.invariant records h)

pub loop-id-preserved-then-kind-number : goal.loop-id-preserved-then-kind-number
loop-id-preserved-then-kind-number c records h =
    let places = c.args.places.now in
    let low : c.loop-id.id < length places = omega (arith, c.loop-id-test.true, c.min-ids.ensures, min-le_left (length places) 4294967295) in
    let s = seen_at c.args.endianness c.args.types.now places records c.loop-id.id c.raw_head_at-raw.result h low c.raw_head_at-raw.ensures in
    other_kind c.args.strings.now records c.loop-id.id c.number_of-number.result c.kind.result c.raw_head_at-raw.result (kinds.kind c.args.kind) c.args.name.now s c.number_of-number.ensures c.kind.ensures c.if-kind-number.true (c.loop-id.invariant records h)

pub returns-in_default : goal.returns-in_default
returns-in_default c records h =
    let places = c.args.places.now in
    let low : c.loop-id.id < length places = omega (arith, c.loop-id-test.true, c.min-ids.ensures, min-le_left (length places) 4294967295) in
    let s = seen_at c.args.endianness c.args.types.now places records c.loop-id.id c.raw_head_at-raw.result h low c.raw_head_at-raw.ensures in
    let kind = same_kind records c.loop-id.id c.number_of-number.result c.kind.result c.raw_head_at-raw.result (kinds.kind c.args.kind) s c.number_of-number.ensures c.kind.ensures c.if-kind-number.false in
    unread_there c.args.strings.now records c.loop-id.id c.raw_head_at-raw.result c.kept_name-offset.result (kinds.kind c.args.kind) c.args.name.now s (c.kept_name-offset.ensures s.seen s.read (sym c.if-kind-number.false ∙ c.kind.ensures)) kind c.in_default.ensures (c.loop-id.invariant records h)

pub returns-then-is_named : goal.returns-then-is_named
returns-then-is_named c records h =
    let places = c.args.places.now in
    let low : c.loop-id.id < length places = omega (arith, c.loop-id-test.true, c.min-ids.ensures, min-le_left (length places) 4294967295) in
    let s = seen_at c.args.endianness c.args.types.now places records c.loop-id.id c.raw_head_at-raw.result h low c.raw_head_at-raw.ensures in
    let kind = same_kind records c.loop-id.id c.number_of-number.result c.kind.result c.raw_head_at-raw.result (kinds.kind c.args.kind) s c.number_of-number.ensures c.kind.ensures c.if-kind-number.false in
    found_there c.args.strings.now records c.loop-id.id c.raw_head_at-raw.result c.kept_name-offset.result (kinds.kind c.args.kind) c.args.name.now s (c.kept_name-offset.ensures s.seen s.read (sym c.if-kind-number.false ∙ c.kind.ensures)) kind (subst (λ (b : Bool). HasName c.args.strings.now c.kept_name-offset.result c.args.name.now (Ok b)) c.if-is_named.true c.in-Some.ensures) (c.loop-id.invariant records h)

pub loop-id-preserved : goal.loop-id-preserved
loop-id-preserved c records h =
    let places = c.args.places.now in
    let low : c.loop-id.id < length places = omega (arith, c.loop-id-test.true, c.min-ids.ensures, min-le_left (length places) 4294967295) in
    let s = seen_at c.args.endianness c.args.types.now places records c.loop-id.id c.raw_head_at-raw.result h low c.raw_head_at-raw.ensures in
    other_name c.args.strings.now records c.loop-id.id c.raw_head_at-raw.result c.kept_name-offset.result (kinds.kind c.args.kind) c.args.name.now s (c.kept_name-offset.ensures s.seen s.read (sym c.if-kind-number.false ∙ c.kind.ensures)) (subst (λ (b : Bool). HasName c.args.strings.now c.kept_name-offset.result c.args.name.now (Ok b)) c.if-is_named.false c.in-Some.ensures) (c.loop-id.invariant records h)

pub returns : goal.returns
returns c records h =
    let places = c.args.places.now in
    let many = as_many_places c.args.endianness c.args.types.now places records h.are in
    let end : c.loop-id.id ≡ length records = omega (arith, c.loop-id-test.false, c.loop-id.auto.id-end, c.min-ids.ensures, many, h.ids, min-eq_left {n = length places} {m = 4294967295} (omega (arith, many, h.ids))) in
    inr (subst (ArePassed c.args.strings.now records (kinds.kind c.args.kind) c.args.name.now) end (c.loop-id.invariant records h), refl)
