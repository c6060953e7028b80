use Rattle.std.proofs.Common.{◌≡◌, ◌∙◌, ◌++◌, ℕ, List, ◌≤◌, length, take, drop, ap, arith, subst, sym}
use Rattle.std.specs.Prelude.{map, min}
use Rattle.std.proofs.Math.Nat.{min-le_right}
use Rattle.std.proofs.lemmas.List.{length-map, length-take-le, take-append-drop, take-map, take_min}
use Rattle.vbtf.proofs.lists.fill_forms.Goals as goal

pub returns : goal.returns
returns g c =
    let T = g.row.T.Denot in let Form = g.row.T-Form.Denot in
    let k = c.min-count.result in
    let items = c.args.items.now in
    let old = c.args.out.now in
    let out = c.loop-index.out in
    let form : T → Form = g.T.Listed.form c.args.info in
    let count : k ≡ min (length old) (length items) = c.min-count.ensures in
    let end : c.loop-index.index ≡ k = omega (arith, c.loop-index-test.false, c.loop-index.auto.index-end) in
    let few : k ≤ length items = subst (λ (n : ℕ). n ≤ length items) (sym count) (min-le_right (length old) (length items)) in
    let same : map form (take k items) ≡ take (length old) (map form items) =
    ap (λ (n : ℕ). map form (take n items)) count ∙ ap (map form) (take_min (length old) items)
    ∙ sym (take-map form (length old) items) in
    let written : take k out ≡ map form (take k items) = subst (λ (n : ℕ). take n out ≡ map form (take n items)) end c.loop-index.invariant.written in
    let unchanged : drop k out ≡ drop k old = subst (λ (n : ℕ). drop n out ≡ drop n old) end c.loop-index.invariant.unchanged in (
      sym (length-take-le k items few) ∙ sym (length-map (take k items) form) ∙ ap length same,
      sym (take-append-drop k out) ∙ ap (λ (ws : List Form). ws ++ drop k out) (written ∙ same)
          ∙ ap (λ (ws : List Form). take (length old) (map form items) ++ ws) unchanged,
    )
