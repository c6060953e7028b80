use Rattle.std.proofs.Common.{◌≡◌, ℕ, length, take, sym, ap, ◌∙◌, arith, refl}
use Rattle.std.specs.Prelude.{map}
use Rattle.std.proofs.lemmas.List.{take_all}
use Rattle.btf_rewrite_model.specs.Feature.{feature_number}
use Rattle.btf_rewrite_model.specs.declared.feature.FeatureAnswer.{FeatureAnswer}
use Rattle.vbtf.specs.Kernel.{granted_number}
use Rattle.vbtf.proofs.kernel.Asked.list.Goals as goal

pub returns : goal.returns
returns c =
    let answers = c.args.answers.now in
    let is : c.loop-index.index ≡ length answers = omega (arith, c.loop-index-test.false, c.loop-index.auto.index-end) in
    let whole = take_all c.loop-index.index answers c.loop-index-test.false in
    record {
      count = refl;
      features = ap (λ (n : ℕ). take n c.loop-index.self.features) (sym is) ∙ c.loop-index.invariant.features ∙ ap (λ xs. map (λ (answer : FeatureAnswer). feature_number answer.feature) xs) whole;
      granted = ap (λ (n : ℕ). take n c.loop-index.self.granted) (sym is) ∙ c.loop-index.invariant.granted ∙ ap (λ xs. map granted_number xs) whole;
    }
