use Rattle.std.proofs.Common.{◌≡◌, ◌+◌, ◌-◌, ◌*◌, ◌/◌, ◌<◌, ℕ, suc, List, [], ◌∷◌, drop, get_or, true, false, refl, ap, ◌∙◌, sym, add-one, drop-cons, arith}
use Rattle.std.specs.Prelude.{◌&&◌, nat_le}
use Rattle.std.proofs.lemmas.Bool.Decides.{nat_tests}
use Rattle.btf_relocate_model.specs.Value.{aligned_load, first_holding, holds}
use Rattle.btf_relocate_model.specs.declared.field.Field.{Field}
use Rattle.btf_relocate.proofs.value.first_holding.Goals as goal
use Rattle.btf_relocate.proofs.value.first_holding.Goals.{else-from-size-via-then-from-size+else-from-bits, else-from-size-via-else-from-size}

abbrev sizes : List ℕ
sizes = 1 ∷ 2 ∷ 4 ∷ 8 ∷ []

-- a size whose load is too early or does not hold the bit-field
next_size : (f : Field) (from i : ℕ) → i < 4 → first_holding f from (drop i sizes) ≡ first_holding f from sizes
    → (nat_le from (get_or sizes i 0) && holds (aligned_load f (get_or sizes i 0))) ≡ false → first_holding f from (drop (i + 1) sizes) ≡ first_holding f from sizes
next_size f from i lt left none =
    let here : drop i sizes ≡ get_or sizes i 0 ∷ drop (suc i) sizes = drop-cons sizes i 0 lt in
    let after : first_holding f from (get_or sizes i 0 ∷ drop (suc i) sizes) ≡ first_holding f from sizes = ap (first_holding f from) (sym here) ∙ left in
    ap (λ (n : ℕ). first_holding f from (drop n sizes)) (add-one i) ∙ rw none at after

above : (a b : ℕ) → b < a → nat_le a b ≡ false
above a b lt = grind (arith, nat_tests)

early : (f : Field) (from size : ℕ) → size < from → (nat_le from size && holds (aligned_load f size)) ≡ false
early f from size lt = let no : nat_le from size ≡ false = above from size lt in rw no refl

too_wide : (f : Field) (from size start bits bytes : ℕ) → start ≡ f.bit - f.bit / 8 / size * size * 8 → bits ≡ f.bits → bytes ≡ size → bytes * 8 < start + bits → (nat_le from size && holds (aligned_load f size)) ≡ false
too_wide f from size start bits bytes first count len lt =
    let no : holds (aligned_load f size) ≡ false = above (f.bit - f.bit / 8 / size * size * 8 + f.bits) (size * 8) (rw (← first, ← count, ← len) lt) in
    elim (nat_le from size) as (λ b. (b && holds (aligned_load f size)) ≡ false) [ true ↦ no | false ↦ refl ]

pub loop-size-preserved : goal.loop-size-preserved
loop-size-preserved c =
    let i = c.loop-size.size-index in
    let size = get_or sizes i 0 in
    let f = c.args.field.now in
    next_size f c.args.from i c.loop-size-test.true c.loop-size.invariant (elim c.else-from-size.branch [
      | else-from-size-via-then-from-size+else-from-bits w ↦ too_wide f c.args.from size w.from.result c.from-bits.result w.from-then-from-size.result w.from.ensures c.from-bits.ensures w.from-then-from-size.ensures w.if-from-bits.false
      | else-from-size-via-else-from-size w ↦ early f c.args.from size w.if-from-size.false
    ])
