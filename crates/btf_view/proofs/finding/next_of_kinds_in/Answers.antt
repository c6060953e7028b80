use Rattle.std.proofs.Common.{◌≡◌, ◌⊎◌, ◌<◌, ◌≤◌, length, arith, inl, inr}
use Rattle.std.proofs.Math.Nat.{min-le_left, min-eq_left}
use Rattle.btf_view.proofs.Found.{seen_at, number_seen, next_here, others_here}
use Rattle.btf_view.proofs.Places.{as_many_places}
use Rattle.btf_view.proofs.finding.next_of_kinds_in.Goals as goal
use Rattle.btf_view.proofs.finding.next_of_kinds_in.Goals.{then-number-kind-via-then-number-kind, then-number-kind-via-else-number-kind+then-number-other}

pub returns-then-number-kind-clause-next : goal.returns-then-number-kind-clause-next
returns-then-number-kind-clause-next c records h =
    let places = c.args.places.now in
    let number = c.kind-number.result in
    let low : c.loop-id.id < length places = omega (arith, c.loop-id-test.true, c.min-ids.ensures, min-le_left (length places) 4294967295) in
    let s = seen_at c.args.endianness c.args.types.now places records c.loop-id.id c.raw_head_at.result h low c.raw_head_at.ensures in
    let one : (number ≡ c.args.kind) ⊎ (number ≡ c.args.other) = elim c.then-number-kind.branch [
      | then-number-kind-via-then-number-kind w ↦ inl w.if-number-kind.true
      | then-number-kind-via-else-number-kind+then-number-other w ↦ inr w.if-number-other.true
    ] in
    next_here records c.args.first c.loop-id.id number c.args.kind c.args.other s.seen s.there (number_seen records c.loop-id.id number c.raw_head_at.result s c.kind-number.ensures) one (omega (arith, c.loop-id.auto.id)) (c.loop-id.invariant records h)

pub loop-id-preserved : goal.loop-id-preserved
loop-id-preserved c records h =
    let places = c.args.places.now in
    let low : c.loop-id.id < length places = omega (arith, c.loop-id-test.true, c.min-ids.ensures, min-le_left (length places) 4294967295) in
    let s = seen_at c.args.endianness c.args.types.now places records c.loop-id.id c.raw_head_at.result h low c.raw_head_at.ensures in
    others_here records c.args.first c.loop-id.id c.kind-number.result c.args.kind c.args.other s.seen s.there (number_seen records c.loop-id.id c.kind-number.result c.raw_head_at.result s c.kind-number.ensures) c.if-number-kind.false c.if-number-other.false (c.loop-id.invariant records h)

pub returns-clause-next : goal.returns-clause-next
returns-clause-next c records h =
    let places = c.args.places.now in
    let many = as_many_places c.args.endianness c.args.types.now places records h.are in
    let past : length records ≤ c.loop-id.id = omega (arith, c.loop-id-test.false, c.min-ids.ensures, many, h.ids, min-eq_left {n = length places} {m = 4294967295} (omega (arith, many, h.ids))) in
    λ id r from lt there. c.loop-id.invariant records h id r from (omega (arith, lt, past)) there
