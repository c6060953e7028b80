use Rattle.std.proofs.Common.{length, ap, arith}
use Rattle.btf_model.specs.Table.{type_bytes}
use Rattle.btf_table.proofs.Tables.{few_types, long_types}
use Rattle.btf_table.proofs.table.Btf.as_slice.Goals as goal

pub returns-clause-ids : goal.returns-clause-ids
returns-clause-ids c = omega (arith, few_types c.self.inside c.self.invariant, ap length c.deref.ensures.value)

pub returns-clause-long : goal.returns-clause-long
returns-clause-long c = omega (arith, long_types c.self.inside c.self.invariant, ap length c.deref.ensures.value, ap (λ t. length (type_bytes t)) c.self.view_is)
