use Rattle.std.proofs.Common.{◌≡◌, ◌∙◌, ◌++◌, ℕ, List, ◌≤◌, length, take, drop, ap, arith, subst, sym}
use Rattle.std.specs.Prelude.{map, min}
use Rattle.std.proofs.Math.Nat.{min-le_right}
use Rattle.std.proofs.lemmas.List.{length-map, length-take-le, take-append-drop, take-map, take_min}
use Rattle.btf_records.specs.BtfType.{record_of}
use Rattle.btf_records.specs.declared.btf_type.BtfType.{BtfType}
use Rattle.btf_view.specs.Forms.{words_in}
use Rattle.btf_view.specs.declared.forms.TypeWords.{TypeWords}
use Rattle.vbtf.proofs.Places.{map_twice}
use Rattle.vbtf.proofs.many.fill_words.Goals as goal

pub returns : goal.returns
returns c =
    let k = c.min-count.result in
    let types = c.args.types.now in
    let old = c.args.out.now in
    let out = c.loop-index.out in
    let words : BtfType → TypeWords = λ t. words_in (record_of t) in
    let count : k ≡ min (length old) (length types) = c.min-count.ensures in
    let end : c.loop-index.index ≡ k = omega (arith, c.loop-index-test.false, c.loop-index.auto.index-end) in
    let few : k ≤ length types = subst (λ (n : ℕ). n ≤ length types) (sym count) (min-le_right (length old) (length types)) in
    let same : map words (take k types) ≡ take (length old) (map words_in (map record_of types)) =
    ap (λ (n : ℕ). map words (take n types)) count ∙ ap (map words) (take_min (length old) types)
    ∙ sym (take-map words (length old) types) ∙ ap (take (length old)) (map_twice record_of words_in types) in
    let written : take k out ≡ map words (take k types) = subst (λ (n : ℕ). take n out ≡ map words (take n types)) end c.loop-index.invariant.written in
    let unchanged : drop k out ≡ drop k old = subst (λ (n : ℕ). drop n out ≡ drop n old) end c.loop-index.invariant.unchanged in (
      sym (length-take-le k types few) ∙ sym (length-map (take k types) words) ∙ ap length same,
      sym (take-append-drop k out) ∙ ap (λ (ws : List TypeWords). ws ++ drop k out) (written ∙ same)
          ∙ ap (λ (ws : List TypeWords). take (length old) (map words_in (map record_of types)) ++ ws) unchanged,
    )
