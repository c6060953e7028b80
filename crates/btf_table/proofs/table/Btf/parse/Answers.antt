use Rattle.btf_table.proofs.Tables.{gives_table, gives_refusal}
use Rattle.btf_table.proofs.table.Btf.parse.Goals as goal

pub returns-clause-only_table : goal.returns-clause-only_table
returns-clause-only_table c = gives_table c.args.endianness c.args.data.now c.read_table.result c.read_table.ensures

pub returns-clause-only_refusal : goal.returns-clause-only_refusal
returns-clause-only_refusal c = gives_refusal c.args.endianness c.args.data.now c.read_table.result c.read_table.ensures
