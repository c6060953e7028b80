use Rattle.std.proofs.Common.{sym, ap, ◌∙◌, arith}
use Rattle.std.specs.Prelude.{slice_get}
use Rattle.btf_model.specs.Record.{kinds}
use Rattle.btf_plain.specs.Kind.{kind}
use Rattle.btf_records.specs.Slot.{StaysOr}
use Rattle.btf_records.proofs.Heads.{front_put, kind_refused}
use Rattle.btf_records.proofs.codec.read_to.Goals as goal

pub returns-in_err-kind : goal.returns-in_err-kind
returns-in_err-kind g c =
    kind_refused g.S.Slot.has_put g.S.Slot.has_kept c.args.slot.now c.args.endianness c.args.data.now c.in_ok-head.head c.in_ok-head.rest.now c.kind.result c.from_residual-in_err-kind.result c.in_err-kind.field-0.0 c.from_residual-in_err-kind.ensures.1 c.in_err-kind.ensures.0 c.in_err-kind.ensures.1 c.kind.ensures c.in_ok-head.ensures

pub returns : goal.returns
returns g c =
    front_put g.S.Slot.has_put (StaysOr g.S.Slot.has_kept) c.args.slot.now c.put_tail.new.slot c.args.endianness c.args.data.now c.in_ok-head.head c.in_ok-head.rest.now (kind c.in_ok-kind.kind) c.put_tail.result (λ i. omega (arith, c.type_inv.data i)) c.in_ok-head.ensures (ap (slice_get kinds) (sym c.kind.ensures) ∙ c.in_ok-kind.ensures) c.put_tail.ensures
