use Rattle.std.proofs.Common.{◌≡◌, ◌⊎◌, arith, inl, inr}
use Rattle.btf_plain.specs.Kind as kinds
use Rattle.btf_records.specs.BtfType.{record_of, type_kind}
use Rattle.btf_view.proofs.Found.{next_here, number_told, others_here}
use Rattle.btf_view.proofs.table_ref.next_in_table.Goals as goal
use Rattle.btf_view.proofs.table_ref.next_in_table.Goals.{then-number-kind-via-then-number-kind, then-number-kind-via-else-number-kind+then-number-other}

pub returns-then-number-kind-clause-next : goal.returns-then-number-kind-clause-next
returns-then-number-kind-clause-next c =
    let number = c.number_of-number.result in
    let r = record_of c.in-Ok.btf_type.now in
    let is = number_told number r.info (kinds.kind c.kind.result) (type_kind c.in-Ok.btf_type.now) c.number_of-number.ensures c.kind.ensures.value c.kind.ensures.info in
    let one : (number ≡ c.args.kind) ⊎ (number ≡ c.args.other) = elim c.then-number-kind.branch [
      | then-number-kind-via-then-number-kind w ↦ inl w.if-number-kind.true
      | then-number-kind-via-else-number-kind+then-number-other w ↦ inr w.if-number-other.true
    ] in
    next_here c.args.table.now.records c.args.first c.loop-id.id number c.args.kind c.args.other r c.in-Ok.ensures.record_is is one (omega (arith, c.loop-id.auto.id)) c.loop-id.invariant

pub loop-id-preserved : goal.loop-id-preserved
loop-id-preserved c =
    let number = c.number_of-number.result in
    let r = record_of c.in-Ok.btf_type.now in
    let is = number_told number r.info (kinds.kind c.kind.result) (type_kind c.in-Ok.btf_type.now) c.number_of-number.ensures c.kind.ensures.value c.kind.ensures.info in
    others_here c.args.table.now.records c.args.first c.loop-id.id number c.args.kind c.args.other r c.in-Ok.ensures.record_is is c.if-number-kind.false c.if-number-other.false c.loop-id.invariant
