use Rattle.std.proofs.Common.{arith}
use Rattle.btf_view.proofs.Arrays.{array_long, array_words}
use Rattle.btf_view.proofs.sizing.array_extent.Goals as goal

pub returns-then-types-at : goal.returns-then-types-at
returns-then-types-at c r is array = absurd (omega (arith, array_long c.args.endianness c.args.types.now c.args.place r is array, c.if-types-at.true))

pub returns : goal.returns
returns c r is array = array_words c.args.endianness c.args.types.now c.args.place r c.word_at-element.result c.word_at.result is array c.word_at-element.ensures c.word_at.ensures
