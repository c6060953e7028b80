use Rattle.std.proofs.Common.{◌≡◌, ◌∙◌, ap, subst, sym, inl, inr, ℕ, Option, Err}
use Rattle.btf_model.specs.Table.{Table}
use Rattle.btf_model.specs.declared.endianness.Endianness.{Endianness}
use Rattle.btf_plain.specs.Error.{refusal_of}
use Rattle.vbtf.specs.Adding.{AddsRecord}
use Rattle.vbtf.specs.Orders.{order_named}
use Rattle.vbtf.proofs.Ending.{refused}
use Rattle.vbtf.proofs.add.vbtf_raw_add_type.Goals as goal

pub returns-in-Err-clause-added : goal.returns-in-Err-clause-added
returns-in-Err-clause-added c owned low =
    let changed = c.in-Some-take_to_change.ensures.2 in
    let old = ap (λ o. o.btf) c.deref_mut.ensures.value ∙ changed.btf in
    let new = c.owner.ensures.1 in
    let table = ap (λ o. o.btf) new ∙ c.in-Err.ensures.err ∙ old in
    let order : c.in-Some.endianness ≡ order_named c.args.order = c.in-Some.ensures.1 in
    let ended = refused {Y = Option ℕ} c.report.result c.report.new.fault (refusal_of c.in-Err.error)
    (AddsRecord c.in-Some.endianness c.args.bytes.now c.deref_mut.result.now.btf c.add_record-answer.new.btf) c.in-Err.ensures.added c.report.ensures in (
      c.owner.ensures.0,
      ap (λ o. o.ext) new ∙ ap (λ o. o.ext) c.deref_mut.ensures.value ∙ changed.ext,
      ap (λ o. o.index) new ∙ ap (λ o. o.index) c.deref_mut.ensures.value ∙ changed.index,
      inr (inr (elim ended [
        | inl full ↦ inl (full, table)
        | inr (refusal, reported, adds) ↦ inr (
          refusal,
          reported,
          subst (λ (p : Endianness × Table × Table). AddsRecord p.0 c.args.bytes.now p.1 p.2 (Err refusal))
              (λ i. (order i, old i, sym (ap (λ o. o.btf) new) i)) adds,
        )
      ])),
    )
