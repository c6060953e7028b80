use Rattle.btf_split.proofs.Joined.{appends_table}
use Rattle.btf_split.proofs.joining.append_split.Goals as goal

pub returns-clause-appended : goal.returns-clause-appended
returns-clause-appended c = appends_table c.args.endianness c.args.table.now c.in_ok-own.own c.args.data.now c.in_ok-own.ensures.parsed _ c.append_table.result c.append_table.ensures.joined
