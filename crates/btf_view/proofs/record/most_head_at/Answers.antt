use Rattle.std.proofs.Common.{arith}
use Rattle.btf_plain.specs.declared.head.Head.{Head}
use Rattle.btf_view.proofs.Heads.{head_there, head_in, retained}
use Rattle.btf_view.proofs.record.most_head_at.Goals as goal

pub returns : goal.returns
returns c r is =
    let types = c.args.types.now in
    let place = c.args.place in
    let head : Head = record { name = c.word_pair_at-words.result.0; info = c.word_pair_at-words.result.1; third = c.word_at.result } in
    let at = head_in c.args.endianness types place c.word_pair_at-words.result.0 c.word_pair_at-words.result.1 c.word_at.result c.word_pair_at-words.ensures.first c.word_pair_at-words.ensures.second c.word_at.ensures (omega (arith, c.if-types-at.false)) in
    retained head c.kept_head.result r (head_there c.args.endianness types place r head _ at is) c.kept_head.ensures
