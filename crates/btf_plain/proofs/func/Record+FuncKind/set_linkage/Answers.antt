use Rattle.std.proofs.Common.{rules, ◌<◌, ◌^◌, ◌∙◌, ap, ℕ, [], refl}
use Rattle.btf_plain.proofs.Info.{new_low_half, same_kind, small_number}
use Rattle.btf_plain.proofs.func.Record+FuncKind.set_linkage.Goals as goal

pub invariant_of-self : goal.invariant_of-self
invariant_of-self c =
    let small : c.number.result < 2 ^ 16 = rw c.number.ensures (small_number c.args.linkage) in (
      rw (new_low_half c.self.inside.head.info c.number.result (search rules) small) (same_kind c.self.inside.head.info c.number.result small ∙ c.self.invariant.0),
      refl,
      refl,
    )

pub returns : goal.returns
returns c =
    let small : c.number.result < 2 ^ 16 = rw c.number.ensures (small_number c.args.linkage) in
    rw (← c.self.view_is, ← c.number.ensures)
    (ap (λ (info : ℕ). record { name = c.self.inside.head.name; info = info; third = c.self.inside.head.third; tail = [] })
    (new_low_half c.self.inside.head.info c.number.result (search rules) small))
