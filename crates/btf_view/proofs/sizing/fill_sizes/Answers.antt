use Rattle.std.proofs.Common.{◌≡◌, ◌∙◌, ◌<◌, ◌+◌, ◌-◌, ℕ, length, min, drop, ap, arith, subst, sym}
use Rattle.std.proofs.lemmas.List.{drop-drop, drop-set-lt}
use Rattle.btf_view.specs.Many.{SizeOrMost}
use Rattle.btf_view.proofs.Filled.{filled_more}
use Rattle.btf_view.proofs.Places.{as_many_places}
use Rattle.btf_view.proofs.sizing.fill_sizes.Goals as goal

pub loop-index-preserved : goal.loop-index-preserved
loop-index-preserved c =
    let i = c.loop-index.index in
    let out = c.loop-index.out in
    let old = c.args.out.now in
    let value = c.size_or_most.result in
    let within : i < length out = omega (arith, c.loop-index-test.true, c.loop-index.auto.out, c.places_from-count.ensures.room) in
    record {
      values = λ records h. (let is_value : ℕ → ℕ → Type 0 = λ n s. SizeOrMost records (c.args.first + n) s in filled_more is_value out i value within (c.loop-index.invariant.values records h) (c.size_or_most.ensures records h));
      unchanged = drop-set-lt (i + 1) out i value (omega arith) ∙ sym (drop-drop 1 i out) ∙ ap (drop 1) c.loop-index.invariant.unchanged ∙ drop-drop 1 i old;
    }

pub returns : goal.returns
returns c records h =
    let k = c.places_from-count.result in
    let many = as_many_places c.args.endianness c.args.types.now c.args.places.now records h.are in
    let end : c.loop-index.index ≡ k = omega (arith, c.loop-index-test.false, c.loop-index.auto.index-end) in
    record {
      places = c.places_from-count.ensures.places (omega (arith, many, h.ids)) ∙ ap (λ (n : ℕ). min (length c.args.out.now) (n - c.args.first)) many;
      values = λ n lt. c.loop-index.invariant.values records h n (omega (arith, end, lt));
      rest = subst (λ (n : ℕ). drop n c.loop-index.out ≡ drop n c.args.out.now) end c.loop-index.invariant.unchanged;
    }
