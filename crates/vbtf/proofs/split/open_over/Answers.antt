use Rattle.std.proofs.Common.{◌≡◌, ◌∙◌, ap, inl, inr, refl, subst, sym, Ok}
use Rattle.btf_model.specs.declared.endianness.Endianness.{Endianness}
use Rattle.btf_plain.specs.Error.{MeetsOrNoMemory, refusal_of}
use Rattle.btf_split_model.specs.Split.{IsJoined, Joins}
use Rattle.vbtf.specs.Orders.{order_chosen}
use Rattle.vbtf.specs.declared.opened.Opened.{Opened}
use Rattle.vbtf.proofs.Ending.{refused, boxed_error, only_value}
use Rattle.vbtf.proofs.split.open_over.Goals as goal

pub returns-in-Err-clause-opened : goal.returns-in-Err-clause-opened
returns-in-Err-clause-opened c = λ closed low.
    let order = order_chosen c.args.order c.args.data.now in
    let parsed = subst (λ (o : Endianness). MeetsOrNoMemory (λ b. b) c.parse_split.result (Joins o c.args.base.now c.args.data.now)) c.in-Some.ensures.1 c.parse_split.ensures.parsed in
    inr (
      c.read_state.ensures.1,
      refused c.report.result c.report.new.fault (refusal_of c.in-Err.error) (Joins order c.args.base.now c.args.data.now)
          (boxed_error c.parse_split.result c.in-Err.error (Joins order c.args.base.now c.args.data.now) parsed c.in-Err.ensures) c.report.ensures,
    )

pub returns-in-Ok-clause-only_table : goal.returns-in-Ok-clause-only_table
returns-in-Ok-clause-only_table c = λ closed low t joined.
    let only = c.parse_split.ensures.only_table t (subst (λ (o : Endianness). IsJoined o c.args.base.now c.args.data.now t) (sym c.in-Some.ensures.1) joined) in
    let is = only_value c.parse_split.result c.in-Ok.whole.value.btf t only c.in-Ok.ensures.0 in
    inl (
      refl,
      c.owner.ensures.0,
      ap (λ (o : Opened). o.ext) c.owner.ensures.1 ∙ c.in-Ok.ensures.1,
      ap (λ (o : Opened). o.index) c.owner.ensures.1 ∙ c.in-Ok.ensures.2,
      ap (λ (o : Opened). Ok o.btf) c.owner.ensures.1 ∙ is,
    )

pub returns-in-Err-clause-only_table : goal.returns-in-Err-clause-only_table
returns-in-Err-clause-only_table c = λ closed low t joined.
    let only = c.parse_split.ensures.only_table t (subst (λ (o : Endianness). IsJoined o c.args.base.now c.args.data.now t) (sym c.in-Some.ensures.1) joined) in
    inr (
      c.read_state.ensures.1,
      refused c.report.result c.report.new.fault (refusal_of c.in-Err.error) (λ answer. answer ≡ Ok t)
          (boxed_error c.parse_split.result c.in-Err.error (λ answer. answer ≡ Ok t) only c.in-Err.ensures) c.report.ensures,
    )
