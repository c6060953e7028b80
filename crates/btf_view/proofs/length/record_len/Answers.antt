use Rattle.std.proofs.Common.{arith, ◌∙◌, sym, ap}
use Rattle.std.specs.Prelude.{slice_get}
use Rattle.btf_model.specs.Record as records
use Rattle.btf_model.specs.Record.{tail_words}
use Rattle.btf_plain.specs.Kind as kinds
use Rattle.btf_view.proofs.Lengths.{kind_refused, tail_cut, whole}
use Rattle.btf_view.proofs.length.record_len.Goals as goal

pub returns-in_err-kind : goal.returns-in_err-kind
returns-in_err-kind c = kind_refused c.args.endianness c.args.bytes.now c.in_ok-head.head c.in_ok-head.field-0-1.now c.kind.result c.from_residual-in_err-kind.result c.in_err-kind.field-0.0 c.from_residual-in_err-kind.ensures.1 c.in_err-kind.ensures.0 c.in_err-kind.ensures.1 c.kind.ensures c.in_ok-head.ensures

pub returns-then-bytes-len : goal.returns-then-bytes-len
returns-then-bytes-len c =
    tail_cut c.args.endianness c.args.bytes.now c.in_ok-head.head c.in_ok-head.field-0-1.now (kinds.kind c.in_ok-kind.kind) c.words_after.result c.in_ok-head.ensures
    (ap (slice_get records.kinds) (sym c.kind.ensures) ∙ c.in_ok-kind.ensures)
    (c.words_after.ensures.value ∙ ap (tail_words (kinds.kind c.in_ok-kind.kind)) c.vlen.ensures.value) (omega (arith, c.if-bytes-len.true))

pub returns : goal.returns
returns c =
    whole c.args.endianness c.args.bytes.now c.in_ok-head.head c.in_ok-head.field-0-1.now (kinds.kind c.in_ok-kind.kind) c.words_after.result (λ i. omega (arith, c.type_inv.bytes i)) c.in_ok-head.ensures
    (ap (slice_get records.kinds) (sym c.kind.ensures) ∙ c.in_ok-kind.ensures)
    (c.words_after.ensures.value ∙ ap (tail_words (kinds.kind c.in_ok-kind.kind)) c.vlen.ensures.value) (omega (arith, c.if-bytes-len.false))
