use Rattle.std.proofs.Common.{arith}
use Rattle.std.proofs.lemmas.List.{length-drop}
use Rattle.btf_view.proofs.Heads.{nothing_there, nothing_read, head_there, head_in}
use Rattle.btf_view.proofs.record.raw_head_at.Goals as goal

pub returns : goal.returns
returns c r is =
    let types = c.args.types.now in
    let place = c.args.place in
    let at = head_in c.args.endianness types place c.word_at.result c.word_at-2.result c.word_at-3.result c.word_at.ensures c.word_at-2.ensures c.word_at-3.ensures (omega (arith, c.if-types-at.false)) in
    head_there c.args.endianness types place r (record { name = c.word_at.result; info = c.word_at-2.result; third = c.word_at-3.result }) _ at is

pub returns-then-types-at : goal.returns-then-types-at
returns-then-types-at c r is =
    nothing_read r (nothing_there c.args.endianness c.args.types.now c.args.place r (omega (arith, length-drop c.args.place c.args.types.now, c.if-types-at.true)) is)
