-- A predicate that asks a kernel gives the kernel's answers.
use Rattle.std.proofs.Common.{◌≡◌, List, [], ◌∷◌, Bool}
use Rattle.btf_rewrite_model.specs.declared.feature.BtfFeature.{BtfFeature}
use Rattle.btf_rewrite_model.specs.declared.feature.FeatureAnswer.{FeatureAnswer}
use Rattle.btf_rewrite_model.proofs.FeatureSet.{AreOfKernel}
use Rattle.btf_table.specs.Features.{Called}

-- a predicate that gives these answers for every feature
pub all_of_kernel : {F : Type 0} (step : F → BtfFeature → Bool → F → Type 0) (has : BtfFeature → Bool) (Is : F → Type 0)
    → ((f g : F) (feature : BtfFeature) (granted : Bool) → Is f → step f feature granted g → (granted ≡ has feature) × Is g)
    → (before : F) (answers : List FeatureAnswer) (after : F) → Is before → Called step before answers after → AreOfKernel has answers
all_of_kernel step has Is each before [] after is called = tt
all_of_kernel step has Is each before (a ∷ answers) after is called =
    let one = each before called.0 a.feature a.granted is called.1 in (one.0, all_of_kernel step has Is each called.0 answers after one.1 called.2)
