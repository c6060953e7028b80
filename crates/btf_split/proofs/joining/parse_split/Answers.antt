use Rattle.btf_split.proofs.Joined.{gives_table, gives_refusal}
use Rattle.btf_split.proofs.joining.parse_split.Goals as goal

pub returns-clause-only_table : goal.returns-clause-only_table
returns-clause-only_table c = gives_table c.args.endianness c.args.base.now c.args.data.now c.read_joined.result c.read_joined.ensures

pub returns-clause-only_refusal : goal.returns-clause-only_refusal
returns-clause-only_refusal c = gives_refusal c.args.endianness c.args.base.now c.args.data.now c.read_joined.result c.read_joined.ensures
