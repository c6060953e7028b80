use Rattle.std.proofs.Common.{◌+◌, arith}
use Rattle.btf_compare.proofs.Buckets.{few_buckets, more_buckets}
use Rattle.btf_compare.proofs.pair_table.room_gained.Goals as goal

pub returns-then-many-lt3-clause-gains : goal.returns-then-many-lt3-clause-gains
returns-then-many-lt3-clause-gains c = omega (arith, few_buckets c.args.many (omega (arith, c.if-many-lt3.true)), few_buckets (c.args.many + 1) (omega (arith, c.if-many-lt3.true)))

pub returns-else-many-lt3-clause-gains : goal.returns-else-many-lt3-clause-gains
returns-else-many-lt3-clause-gains c = omega (arith, more_buckets c.args.many c.if-many-lt3.false, more_buckets (c.args.many + 1) (omega (arith, c.if-many-lt3.false)))
