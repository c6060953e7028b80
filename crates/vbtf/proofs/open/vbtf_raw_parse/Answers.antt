use Rattle.std.proofs.Common.{inr, subst}
use Rattle.btf_model.specs.Blob.{Parses}
use Rattle.btf_model.specs.declared.endianness.Endianness.{Endianness}
use Rattle.btf_plain.specs.Error.{MeetsOrNoMemory, refusal_of}
use Rattle.vbtf.specs.Orders.{order_chosen}
use Rattle.vbtf.proofs.Ending.{refused, boxed_error}
use Rattle.vbtf.proofs.open.vbtf_raw_parse.Goals as goal

pub returns-in-Err-clause-opened : goal.returns-in-Err-clause-opened
returns-in-Err-clause-opened c = λ closed low.
    let order = order_chosen c.args.order c.args.data.now in
    let parsed = subst (λ (o : Endianness). MeetsOrNoMemory (λ b. b) c.parse.result (Parses o c.args.data.now)) c.in-Some.ensures.1 c.parse.ensures.parsed in
    inr (
      c.read_state.ensures.1,
      refused c.report.result c.report.new.fault (refusal_of c.in-Err.error) (Parses order c.args.data.now)
          (boxed_error c.parse.result c.in-Err.error (Parses order c.args.data.now) parsed c.in-Err.ensures) c.report.ensures,
    )
