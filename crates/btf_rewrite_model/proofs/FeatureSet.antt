-- Features differ in their numbers and names, and the answers of a kernel are whether it has the features.
use Rattle.std.proofs.Common.{◌≡◌, ℕ, List, [], ◌∷◌, Bool, true, false, ◌||◌, refl, sym, ap, ◌∙◌, eq-eqb, eqb-true}
use Rattle.std.specs.Prelude.{if◌then◌else◌, ◌==◌, codes}
use Rattle.std.specs.List.{list_any, AllByRecursion}
use Rattle.std.specs.Str.{bytes_eq}
use Rattle.std.proofs.lemmas.Bool.{false≢true}
use Rattle.std.proofs.lemmas.Slice.Eq.{bytes_eq-Decides}
use Rattle.btf_rewrite_model.specs.declared.feature.BtfFeature.{BtfFeature}
use Rattle.btf_rewrite_model.specs.declared.feature.BtfFeature.TheVariants as features
use Rattle.btf_rewrite_model.specs.declared.feature.FeatureAnswer.{FeatureAnswer}
use Rattle.btf_rewrite_model.specs.Feature.{grants, same_feature, feature_number}
use Rattle.btf_rewrite_model.specs.FeatureSet.{feature_name, answers_of}
use Rattle.btf_rewrite_model.specs.Passing.{features_of}
use Rattle.btf_rewrite_model.proofs.Kernels.{AgreeWith}

-- the feature of a number
abbrev numbered : ℕ → BtfFeature
numbered n =
    if n == 0 then features.Func
    else (if n == 1 then features.FuncGlobal
    else (if n == 2 then features.DataSec
    else (if n == 3 then features.DataSecZero
    else (if n == 4 then features.Float
    else (if n == 5 then features.DeclTag
    else (if n == 6 then features.TypeTag else features.Enum64))))))

numbered_is : (f : BtfFeature) → numbered (feature_number f) ≡ f
numbered_is features.Func = refl
numbered_is features.FuncGlobal = refl
numbered_is features.DataSec = refl
numbered_is features.DataSecZero = refl
numbered_is features.Float = refl
numbered_is features.DeclTag = refl
numbered_is features.TypeTag = refl
numbered_is features.Enum64 = refl

pub same_is : (f g : BtfFeature) → same_feature f g ≡ true → f ≡ g
same_is f g is = sym (numbered_is f) ∙ ap numbered (eqb-true (feature_number f) (feature_number g) is) ∙ numbered_is g

-- the feature of a name
abbrev pub named : List ℕ → BtfFeature
named name =
    if bytes_eq name (codes "Func") then features.Func
    else (if bytes_eq name (codes "FuncGlobal") then features.FuncGlobal
    else (if bytes_eq name (codes "DataSec") then features.DataSec
    else (if bytes_eq name (codes "DataSecZero") then features.DataSecZero
    else (if bytes_eq name (codes "Float") then features.Float
    else (if bytes_eq name (codes "DeclTag") then features.DeclTag
    else (if bytes_eq name (codes "TypeTag") then features.TypeTag else features.Enum64))))))

pub named_is : (f : BtfFeature) → named (feature_name f) ≡ f
named_is features.Func = refl
named_is features.FuncGlobal = refl
named_is features.DataSec = refl
named_is features.DataSecZero = refl
named_is features.Float = refl
named_is features.DeclTag = refl
named_is features.TypeTag = refl
named_is features.Enum64 = refl

-- the names of two features are equal exactly if the features are
pub names_alike : (f g : BtfFeature) → bytes_eq (feature_name f) (feature_name g) ≡ same_feature f g
names_alike f g =
    elim (same_feature f g) as (λ (b : Bool). same_feature f g ≡ b → bytes_eq (feature_name f) (feature_name g) ≡ b) [
      | true ↦ λ same. (bytes_eq-Decides (feature_name f) (feature_name g)).1 (ap feature_name (same_is f g same))
      | false ↦ λ differ.
          elim (bytes_eq (feature_name f) (feature_name g)) as (λ (b : Bool). bytes_eq (feature_name f) (feature_name g) ≡ b → b ≡ false) [
            | true ↦ λ is.
                let one : f ≡ g = sym (named_is f) ∙ ap named ((bytes_eq-Decides (feature_name f) (feature_name g)).0 is) ∙ named_is g in
                absurd (false≢true (sym differ ∙ ap (same_feature f) (sym one) ∙ eq-eqb (feature_number f) (feature_number f) refl))
            | false ↦ λ is. refl
          ] refl
    ] refl

-- the answers of a kernel grant the features that it has
pub kernel_grants : (has : BtfFeature → Bool) (f : BtfFeature) → grants (answers_of has) f ≡ has f
kernel_grants has features.Func = refl
kernel_grants has features.FuncGlobal = refl
kernel_grants has features.DataSec = refl
kernel_grants has features.DataSecZero = refl
kernel_grants has features.Float = refl
kernel_grants has features.DeclTag = refl
kernel_grants has features.TypeTag = refl
kernel_grants has features.Enum64 = refl

-- each answer is whether the kernel has its feature
abbrev pub AreOfKernel : (BtfFeature → Bool) → List FeatureAnswer → Type 0
AreOfKernel has answers = AllByRecursion (λ (a : FeatureAnswer). a.granted ≡ has a.feature) answers

-- such answers agree with the kernel's answers to all features
pub kernel_agrees : (has : BtfFeature → Bool) (answers : List FeatureAnswer) → AreOfKernel has answers → AgreeWith answers (answers_of has)
kernel_agrees has [] are f among = absurd (false≢true among)
kernel_agrees has (a ∷ answers) are f among =
    elim (same_feature a.feature f) as (λ (b : Bool). same_feature a.feature f ≡ b → grants (answers_of has) f ≡ (if b then a.granted else grants answers f)) [
      | true ↦ λ same. let one : a.feature ≡ f = same_is a.feature f same in kernel_grants has f ∙ ap has (sym one) ∙ sym are.0
      | false ↦ λ other. kernel_agrees has answers are.1 f (later a.feature other among)
    ] refl
  where
    later : (g : BtfFeature) → same_feature g f ≡ false → (same_feature f g || list_any (same_feature f) (features_of answers)) ≡ true → list_any (same_feature f) (features_of answers) ≡ true
    later g other either =
        elim (same_feature f g) as (λ (b : Bool). same_feature f g ≡ b → (b || list_any (same_feature f) (features_of answers)) ≡ true → list_any (same_feature f) (features_of answers) ≡ true)
        [ true ↦ λ is _. absurd (false≢true (sym other ∙ ap (λ (h : BtfFeature). same_feature g h) (same_is f g is) ∙ eq-eqb (feature_number g) (feature_number g) refl)) | false ↦ λ is rest. rest ] refl either
