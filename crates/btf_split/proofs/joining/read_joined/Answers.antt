use Rattle.btf_split.proofs.Joined.{joins_tables}
use Rattle.btf_split.proofs.joining.read_joined.Goals as goal

pub returns : goal.returns
returns c = joins_tables c.args.endianness c.args.base.now c.in_ok-own.own c.args.data.now c.in_ok-own.ensures.parsed c.join_tables.result c.join_tables.ensures
