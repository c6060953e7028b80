use Rattle.std.proofs.Common.{◌≡◌, ◌∙◌, ◌+◌, ◌*◌, ℕ, List, Some, None, sym, ap, arith, inl, inr}
use Rattle.std.specs.Prelude.{slice_get}
use Rattle.btf_view.specs.TypeRef.{record_in}
use Rattle.btf_view.proofs.Words.{item_of_two, item_of_three, no_item}
use Rattle.btf_view.proofs.type_ref.TypeRef.item.Goals as goal

pub returns-then-WIDTH-eq2 : goal.returns-then-WIDTH-eq2
returns-then-WIDTH-eq2 g c =
    let w = g.T.Item.WIDTH in
    let i = c.args.index in
    let ws = (record_in c.args.self.now).tail in
    let same = sym c.WIDTH.ensures in
    let first : slice_get ws (w * i) ≡ Some c.in-Some.one = ap (λ (n : ℕ). slice_get ws (n * i)) same ∙ sym c.word.ensures ∙ c.in-Some.is in
    let second : slice_get ws (w * i + 1) ≡ Some c.in-Some-word.two = ap (λ (n : ℕ). slice_get ws (n * i + 1)) same ∙ sym c.word-2.ensures ∙ c.in-Some-word.is in
    ap (λ (xs : List ℕ). Some xs) c.from_words.ensures ∙ sym (item_of_two w ws i c.in-Some.one c.in-Some-word.two 0 (sym c.WIDTH-2.ensures ∙ c.if-WIDTH-eq2.true) first second)

pub returns-in-Some-word-2 : goal.returns-in-Some-word-2
returns-in-Some-word-2 g c =
    let w = g.T.Item.WIDTH in
    let i = c.args.index in
    let ws = (record_in c.args.self.now).tail in
    let same = sym c.WIDTH.ensures in
    let first : slice_get ws (w * i) ≡ Some c.in-Some.one = ap (λ (n : ℕ). slice_get ws (n * i)) same ∙ sym c.word.ensures ∙ c.in-Some.is in
    let second : slice_get ws (w * i + 1) ≡ Some c.in-Some-word.two = ap (λ (n : ℕ). slice_get ws (n * i + 1)) same ∙ sym c.word-2.ensures ∙ c.in-Some-word.is in
    let third : slice_get ws (w * i + 2) ≡ Some c.in-Some-word-2.three = ap (λ (n : ℕ). slice_get ws (n * i + 2)) same ∙ sym c.word-3.ensures ∙ c.in-Some-word-2.is in
    let is : w ≡ 3 = elim g.met.T.Item.two_or_three [ inl two ↦ absurd (c.if-WIDTH-eq2.false (c.WIDTH-2.ensures ∙ two)) | inr three ↦ three ] in
    ap (λ (xs : List ℕ). Some xs) c.from_words-in-Some-word-2.ensures ∙ sym (item_of_three w ws i c.in-Some.one c.in-Some-word.two c.in-Some-word-2.three is first second third)

pub returns-in-None : goal.returns-in-None
returns-in-None g c =
    let w = g.T.Item.WIDTH in
    let i = c.args.index in
    let ws = (record_in c.args.self.now).tail in
    let three : w ≡ 3 = elim g.met.T.Item.two_or_three [ inl two ↦ absurd (c.if-WIDTH-eq2.false (c.WIDTH-2.ensures ∙ two)) | inr three ↦ three ] in
    let none : slice_get ws (w * i + 2) ≡ None = ap (λ (n : ℕ). slice_get ws (n * i + 2)) (sym c.WIDTH.ensures) ∙ sym c.word-3.ensures ∙ c.in-None.is in
    sym (no_item w ws i 2 (omega (arith, three)) none)

pub returns-in_default : goal.returns-in_default
returns-in_default g c =
    let w = g.T.Item.WIDTH in
    let i = c.args.index in
    let ws = (record_in c.args.self.now).tail in
    let none : slice_get ws (w * i + 0) ≡ None = ap (slice_get ws) (let e : w * i + 0 ≡ w * i = omega arith in e) ∙ ap (λ (n : ℕ). slice_get ws (n * i)) (sym c.WIDTH.ensures) ∙ sym c.word.ensures ∙ c.in_default.is in
    sym (no_item w ws i 0 (elim g.met.T.Item.two_or_three [ inl two ↦ omega (arith, two) | inr three ↦ omega (arith, three) ]) none)

pub returns-in_default-word : goal.returns-in_default-word
returns-in_default-word g c =
    let w = g.T.Item.WIDTH in
    let i = c.args.index in
    let ws = (record_in c.args.self.now).tail in
    let none : slice_get ws (w * i + 1) ≡ None = ap (λ (n : ℕ). slice_get ws (n * i + 1)) (sym c.WIDTH.ensures) ∙ sym c.word-2.ensures ∙ c.in_default-word.is in
    sym (no_item w ws i 1 (elim g.met.T.Item.two_or_three [ inl two ↦ omega (arith, two) | inr three ↦ omega (arith, three) ]) none)
