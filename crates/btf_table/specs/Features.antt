-- Features and answers of the code as values of the definitions, and what a call that asks for a feature does.
use Rattle.std.specs.Prelude.{◌≡◌, ℕ, eqb, Bool, List, [], ◌∷◌, ◌++◌, map, Option, Some, None}
use Rattle.std.specs.List.{IsDistinct}
use Rattle.btf_rewrite_model.specs.Feature.{feature_number, answer_to}
use Rattle.btf_rewrite_model.specs.declared.feature.BtfFeature.{BtfFeature}
use Rattle.btf_rewrite_model.specs.declared.feature.FeatureAnswer.{FeatureAnswer}

-- the numbers of the features that are answered
abbrev pub numbers : List FeatureAnswer → List ℕ
numbers answers = map (λ (a : FeatureAnswer). feature_number a.feature) answers

-- no two answers are for one feature
abbrev pub AreDistinct : List FeatureAnswer → Type 0
AreDistinct answers = IsDistinct eqb (numbers answers)

-- what a resolver represents: its predicate, and the answers so far, in the order of the calls
pub record Resolver (F : Type 0) : Type 0 where
  pub predicate : F
  pub answers : List FeatureAnswer

-- A call that asks for a feature: if the feature was answered, the call returns this answer, and nothing changes.
-- Otherwise the call makes one call of the predicate in its current state, and appends the answer to the others.
abbrev pub AsksFor : {F : Type 0} → (F → BtfFeature → Bool → F → Type 0) → BtfFeature → Option Bool → Resolver F → Bool
    → Resolver F → Type 0
AsksFor step feature (Some was) old answer new = (answer ≡ was) × (new ≡ old)
AsksFor step feature None old answer new =
    step old.predicate feature answer new.predicate
    × (new.answers ≡ old.answers ++ record { feature = feature; granted = answer } ∷ [])

-- the same, by what was answered for the feature
abbrev pub AsksResolver : {F : Type 0} → (F → BtfFeature → Bool → F → Type 0) → BtfFeature → Resolver F → Bool → Resolver F
    → Type 0
AsksResolver step feature old answer new = AsksFor step feature (answer_to old.answers feature) old answer new

-- The predicate was called for these features in order, and gave these answers. Only these calls changed its state from
-- the first to the last one.
abbrev pub Called : {F : Type 0} → (F → BtfFeature → Bool → F → Type 0) → F → List FeatureAnswer → F → Type 0
Called step before [] after = after ≡ before
Called {F} step before (a ∷ answers) after =
    (mid : F) × step before a.feature a.granted mid × Called step mid answers after

-- A predicate that was called as the first answers say is called as the second answers say.
abbrev pub CallsFurther : {F : Type 0} → (F → BtfFeature → Bool → F → Type 0) → Resolver F → Resolver F → Type 0
CallsFurther {F} step old new =
    (first : F) → Called step first old.answers old.predicate → Called step first new.answers new.predicate

-- these answers, followed by others
abbrev pub IsFurther : List FeatureAnswer → List FeatureAnswer → Type 0
IsFurther old new = (more : List FeatureAnswer) × (new ≡ old ++ more)
