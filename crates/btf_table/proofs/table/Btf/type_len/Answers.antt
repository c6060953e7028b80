use Rattle.std.proofs.Common.{length, ap, arith}
use Rattle.std.proofs.lemmas.List.{length-map}
use Rattle.btf_model.specs.Table.{type_bytes}
use Rattle.btf_records.specs.BtfType.{record_of}
use Rattle.btf_table.proofs.Tables.{long_types}
use Rattle.btf_table.proofs.table.Btf.type_len.Goals as goal

pub returns-clause-long : goal.returns-clause-long
returns-clause-long c =
    omega (arith, long_types c.self.inside c.self.invariant, c.self.invariant.types, length-map c.self.inside.types.items record_of, ap (λ t. length (type_bytes t)) c.self.view_is, ap (λ t. length t.records) c.self.view_is)
