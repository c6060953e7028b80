use Rattle.std.proofs.Common.{◌≡◌, ◌≤◌, ◌-◌, ◌∙◌, ◌∷◌, ℕ, ap, arith, suc, map, length, refl, slice_get}
use Rattle.std.proofs.lemmas.Option.{slice_get_read}
use Rattle.btf_order_model.specs.Uses.{uses_of}
use Rattle.btf_order.specs.Shape.{param_type}
use Rattle.btf_order.proofs.Types.{use_at}
use Rattle.btf_order.proofs.shape.type_at.Goals as goal

next : (i n : ℕ) → 1 ≤ n → i ≡ n - 1 → suc i ≡ n
next i n some is = omega (arith, some, is)

pub returns-in_ok-id-in-Some-clause-uses : goal.returns-in_ok-id-in-Some-clause-uses
returns-in_ok-id-in-Some-clause-uses c =
    use_at param_type c.args.params.now c.in-Some.param _ c.args.through_pointer
    (slice_get_read c.args.params.now (length c.args.params.now) c.in-Some.param c.in_ok-id-in-Some.field-0.now refl c.in_ok-id-in-Some.ensures.lookup.3.0 c.in_ok-id-in-Some.ensures.lookup.1)
    ∙ ap (λ i. slice_get (uses_of (c.args.return_type ∷ map param_type c.args.params.now) c.args.through_pointer) i) (next c.in-Some.param c.args.index c.in-Some.ensures.0 c.in-Some.ensures.1)
