use Rattle.std.proofs.Common.{◌≡◌, take}
use Rattle.std.specs.Prelude.{map}
use Rattle.btf_rewrite_model.specs.Feature.{feature_number}
use Rattle.btf_rewrite_model.specs.declared.feature.FeatureAnswer.{FeatureAnswer}
use Rattle.vbtf.specs.Kernel.{granted_number}
use Rattle.vbtf.proofs.kernel.Asked.list.Given as goal

abbrev pub invariant-loop-index : goal.invariant-loop-index
invariant-loop-index l = record {
  features : take l.index l.self.features ≡ map (λ (answer : FeatureAnswer). feature_number answer.feature) (take l.index l.answers);
  granted : take l.index l.self.granted ≡ map granted_number (take l.index l.answers);
}
