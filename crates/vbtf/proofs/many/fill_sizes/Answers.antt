use Rattle.std.proofs.Common.{◌≡◌, ◌∙◌, ◌<◌, ◌+◌, ◌-◌, ℕ, length, drop, ap, arith, subst, sym}
use Rattle.std.proofs.Math.Nat.{min-le_left}
use Rattle.std.proofs.lemmas.List.{drop-drop, drop-set-lt}
use Rattle.btf_view.specs.Many.{SizeOrMost}
use Rattle.vbtf.proofs.Places.{filled_more}
use Rattle.vbtf.proofs.many.fill_sizes.Goals as goal

pub loop-index-preserved : goal.loop-index-preserved
loop-index-preserved c =
    let i = c.loop-index.index in
    let out = c.loop-index.out in
    let old = c.args.out.now in
    let value = c.size_or_most.result in
    let is_value : ℕ → ℕ → Type 0 = λ n s. SizeOrMost c.args.table.now.records (c.args.first + n) s in
    let within : i < length out = omega (arith, c.loop-index-test.true, c.loop-index.auto.out, c.places_from-count.ensures.places, min-le_left (length old) (length c.args.table.now.records - c.args.first)) in
    let more : 1 + i ≡ i + 1 = omega arith in
    record {
      sizes = filled_more is_value out i value within c.loop-index.invariant.sizes c.size_or_most.ensures;
      unchanged = drop-set-lt (i + 1) out i value (omega arith) ∙ sym (drop-drop 1 i out) ∙ ap (drop 1) c.loop-index.invariant.unchanged ∙ drop-drop 1 i old;
    }

pub returns : goal.returns
returns c =
    let k = c.places_from-count.result in
    let end : c.loop-index.index ≡ k = omega (arith, c.loop-index-test.false, c.loop-index.auto.index-end) in
    record {
      places = c.places_from-count.ensures.places;
      values = λ n lt. c.loop-index.invariant.sizes n (omega (arith, end, lt));
      rest = subst (λ (n : ℕ). drop n c.loop-index.out ≡ drop n c.args.out.now) end c.loop-index.invariant.unchanged;
    }
