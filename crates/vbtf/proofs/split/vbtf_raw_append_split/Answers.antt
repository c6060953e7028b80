use Rattle.std.proofs.Common.{◌≡◌, ◌∙◌, ap, subst, inr}
use Rattle.btf_model.specs.Table.{Table}
use Rattle.btf_model.specs.declared.endianness.Endianness.{Endianness}
use Rattle.btf_plain.specs.Error.{refusal_of}
use Rattle.btf_split_model.specs.Split.{Appends}
use Rattle.vbtf.specs.Orders.{order_chosen}
use Rattle.vbtf.specs.Status.{Fails}
use Rattle.vbtf.proofs.Ending.{refused}
use Rattle.vbtf.proofs.split.vbtf_raw_append_split.Goals as goal

pub returns-in-Err-clause-appended : goal.returns-in-Err-clause-appended
returns-in-Err-clause-appended c owned low =
    let changed = c.in-Some-take_to_change.ensures.2 in
    let old = ap (λ o. o.btf) c.deref_mut.ensures.value ∙ changed.btf in
    let new = c.owner.ensures.1 in
    let order : c.in-Some.data_order ≡ order_chosen c.args.order c.args.data.now = c.in-Some.ensures.1 in
    let ended = refused {Y = Table} c.report.result c.report.new.fault (refusal_of c.in-Err.error) (Appends c.in-Some.data_order c.deref_mut.result.now.btf c.args.data.now) c.in-Err.ensures.appended c.report.ensures in (
      c.owner.ensures.0,
      inr (
        subst (λ (p : Endianness × Table). Fails {Y = Table} c.report.result c.report.new.fault (Appends p.0 p.1 c.args.data.now)) (λ i. (order i, old i)) ended,
        record {
          btf = ap (λ o. o.btf) new ∙ c.in-Err.ensures.err ∙ old;
          ext = ap (λ o. o.ext) new ∙ ap (λ o. o.ext) c.deref_mut.ensures.value ∙ changed.ext;
          index = ap (λ o. o.index) new ∙ ap (λ o. o.index) c.deref_mut.ensures.value ∙ changed.index;
        },
      ),
    )
