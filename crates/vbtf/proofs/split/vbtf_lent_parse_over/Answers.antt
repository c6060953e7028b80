use Rattle.std.proofs.Common.{◌≡◌, ◌∙◌, subst, sym}
use Rattle.btf_split_model.specs.Split.{IsJoined, Joins}
use Rattle.vbtf.specs.Orders.{order_chosen}
use Rattle.vbtf.specs.Status.{Opens}
use Rattle.vbtf.specs.declared.opened.Opened.{Opened}
use Rattle.vbtf.proofs.split.vbtf_lent_parse_over.Goals as goal

pub returns-clause-opened : goal.returns-clause-opened
returns-clause-opened c = λ lent closed low.
    let is : c.get.result.now ≡ c.args.base.now.opened = c.get.ensures ∙ c.in-Some.ensures.2 in
    subst (λ (o : Opened). Opens c.open_over-status.result c.args.table.now c.open_over-status.new.table c.open_over-status.new.fault (Joins (order_chosen c.args.order c.args.data.now) o.btf c.args.data.now))
    is (c.open_over-status.ensures.opened closed low)

pub returns-clause-only_table : goal.returns-clause-only_table
returns-clause-only_table c = λ lent closed low t joined.
    let is : c.get.result.now ≡ c.args.base.now.opened = c.get.ensures ∙ c.in-Some.ensures.2 in
    c.open_over-status.ensures.only_table closed low t
    (subst (λ (o : Opened). IsJoined (order_chosen c.args.order c.args.data.now) o.btf c.args.data.now t) (sym is) joined)
