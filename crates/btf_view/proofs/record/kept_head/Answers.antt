use Rattle.std.proofs.Common.{◌≡◌, ◌∙◌, ℕ, Some, inl, inr, refl, sym, ap, subst, arith}
use Rattle.std.specs.Prelude.{slice_get}
use Rattle.std.proofs.lemmas.Option.{same_Some}
use Rattle.btf_model.specs.Record as model
use Rattle.btf_model.specs.Record.{Kind, kind_number}
use Rattle.btf_model.specs.Spelling.{kept}
use Rattle.btf_plain.specs.Head.{headed}
use Rattle.btf_plain.specs.declared.head.Head.{Head}
use Rattle.btf_view.specs.Record.{HasHead}
use Rattle.btf_view.proofs.KindNames.{head_kept, one_number}
use Rattle.btf_view.proofs.record.kept_head.Goals as goal

-- the kind of a number
kind_at : (info n m : ℕ) (k j : Kind) → n ≡ kind_number info → slice_get model.kinds (kind_number info) ≡ Some k → n ≡ m → slice_get model.kinds m ≡ Some j → k ≡ j
kind_at info n m k j n-is has is at = same_Some k j (sym has ∙ ap (slice_get model.kinds) (sym n-is ∙ is) ∙ at)

-- the number of a kind
number_at : (info n m : ℕ) (k j : Kind) → n ≡ kind_number info → slice_get model.kinds (kind_number info) ≡ Some k → k ≡ j → slice_get model.kinds m ≡ Some j → n ≡ m
number_at info n m k j n-is has same at = n-is ∙ one_number (kind_number info) m j (has ∙ ap (λ (i : Kind). Some i) same) at

pub returns-then-kind-eq0 : goal.returns-then-kind-eq0
returns-then-kind-eq0 c k tail has =
    let none : Head = record { name = 0; info = 0; third = 0 } in
    subst (λ (j : Kind). HasHead none (kept j (headed c.args.head tail))) (sym (kind_at c.args.head.info c.kind-kind.result 0 k model.Unknown c.kind-kind.ensures has (omega (arith, c.if-kind-eq0.true)) refl)) (record { name = refl; info = refl; third = refl })

pub returns : goal.returns
returns c k tail has =
    let info = c.args.head.info in
    let n = c.kind-kind.result in
    head_kept k c.args.head tail c.kept_third.result
    (λ same. absurd (omega (arith, c.if-kind-eq0.false, number_at info n 0 k model.Unknown c.kind-kind.ensures has same refl)))
    (λ either. c.kept_third.ensures.dropped (elim either [ inl a ↦ inl (number_at info n 3 k model.Array c.kind-kind.ensures has a refl) | inr f ↦ inr (number_at info n 7 k model.Fwd c.kind-kind.ensures has f refl) ]))
    (λ a f. c.kept_third.ensures.kept (λ is. a (kind_at info n 3 k model.Array c.kind-kind.ensures has is refl)) (λ is. f (kind_at info n 7 k model.Fwd c.kind-kind.ensures has is refl)))
