use Rattle.std.proofs.Common.{◌≡◌, ℕ, ◌<◌, ◌+◌, ◌-◌, List, length, take, get_or, set, sym, subst, arith}
use Rattle.btf_records.specs.declared.btf_type.BtfType.{BtfType}
use Rattle.btf_table.specs.Changes.{put_back}
use Rattle.btf_table.proofs.Put.{back_next}
use Rattle.btf_table.proofs.table.changes.put_back_types.Goals as goal

pub loop-gone-preserved : goal.loop-gone-preserved
loop-gone-preserved c =
    let cs : List (ℕ × BtfType) = c.loop-gone.old in
    let old : List (ℕ × BtfType) = c.args.old.now in
    let gone : ℕ = c.loop-gone.gone in
    let at : ℕ = length cs - 1 - gone in
    let lt : at < length cs = omega (arith, c.loop-gone-test.true, c.loop-gone.auto.old) in
    let before : length old - gone ≡ at + 1 = omega (arith, c.loop-gone-test.true, c.loop-gone.auto.old) in
    let now : length old - (gone + 1) ≡ at = omega (arith, c.loop-gone-test.true, c.loop-gone.auto.old) in
    let next = back_next cs old c.loop-gone.types (put_back old c.args.types.now) at c.index-old-at-in-loop-gone.result c.index-old-at.result c.swap.new.x _ lt c.loop-gone.auto.old
    (subst (λ (n : ℕ). put_back (take n old) c.loop-gone.types ≡ put_back old c.args.types.now) before c.loop-gone.invariant.0)
    (subst (λ (n : ℕ). take n cs ≡ take n old) before c.loop-gone.invariant.1) c.swap.ensures.x_after in
    subst (λ (n : ℕ). (put_back (take n old) (set c.loop-gone.types (get_or cs at c.index-old-at.result).0 c.swap.new.x) ≡ put_back old c.args.types.now)
    × (take n (set cs at ((get_or cs at c.index-old-at-in-loop-gone.result).0, c.swap.new.y)) ≡ take n old)) (sym now) next
