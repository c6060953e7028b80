use Rattle.std.proofs.Common.{subst}
use Rattle.std.specs.Prelude.{IfSome}
use Rattle.btf_model.specs.Blob.{IsRefusal}
use Rattle.btf_model.specs.declared.endianness.Endianness.{Endianness}
use Rattle.btf_plain.specs.Error.{refusal_of}
use Rattle.btfobj_cli.specs.InputFile.{HasFileTable}
use Rattle.btfobj_cli.proofs.Reports.{reports}
use Rattle.btfobj_cli.proofs.input_file.InputFile.table.Goals as goal

pub returns-in_err-parse : goal.returns-in_err-parse
returns-in_err-parse c =
    let refused = subst (λ (order : Endianness). IfSome (refusal_of c.in_err-parse.field-0.0) (IsRefusal order c.in_ok-bytes.bytes.now)) c.endianness.ensures c.in_err-parse.ensures.parsed in
    reports c.args.self.now c.in_ok-bytes.bytes.now c.in_err-parse.field-0.0 c.from_residual-in_err-parse.result (HasFileTable c.args.self.now) c.in_ok-bytes.ensures refused c.from_residual-in_err-parse.ensures.1
