-- If each feature is asked for at most once, a granted feature is granted exactly once.
use Rattle.std.proofs.Common.{◌≡◌, Bool, true, false, not, cond, List, [], ◌∷◌, map, refl, sym, ap, ◌∙◌}
use Rattle.std.specs.Prelude.{if◌then◌else◌}
use Rattle.std.specs.List.{list_any, filter}
use Rattle.std.proofs.lemmas.Bool.{false≢true, or_parts, or_from, eqb-true, eq-eqb, true≢false, false_from_ne_true}
use Rattle.btf_rewrite_model.specs.Feature.{feature_number, same_feature, grants}
use Rattle.btf_rewrite_model.specs.declared.feature.BtfFeature.{BtfFeature}
use Rattle.btf_rewrite_model.specs.declared.feature.FeatureAnswer.{FeatureAnswer}
use Rattle.btf_rewrite_model.specs.Pass.{each_once}
use Rattle.btf_rewrite_model.specs.RewriteLaws.{IsGrantedOnce}

-- no feature is in the list twice
abbrev pub AreOnce : List BtfFeature → Type 0
AreOnce [] = Unit {0}
AreOnce (f ∷ fs) = (list_any (same_feature f) fs ≡ false) × AreOnce fs

-- what is filtered out of a list is not in it
left_out : (f : BtfFeature) (fs : List BtfFeature) → list_any (same_feature f) (filter (λ g. not (same_feature f g)) fs) ≡ false
left_out f [] = refl
left_out f (g ∷ fs) =
    elim (same_feature f g) as (λ (b : Bool). b ≡ same_feature f g → list_any (same_feature f) (cond (not b) (g ∷ filter (λ h. not (same_feature f h)) fs) (filter (λ h. not (same_feature f h)) fs)) ≡ false)
    [ true ↦ λ is. left_out f fs | false ↦ λ is. or_from (same_feature f g) (list_any (same_feature f) (filter (λ h. not (same_feature f h)) fs)) (sym is) (left_out f fs) ] refl

-- nor is what was not in the list before
not_there : (f : BtfFeature) (test : BtfFeature → Bool) (fs : List BtfFeature) → list_any (same_feature f) fs ≡ false → list_any (same_feature f) (filter test fs) ≡ false
not_there f test [] absent = refl
not_there f test (g ∷ fs) absent =
    let parts = or_parts (same_feature f g) (list_any (same_feature f) fs) absent in
    elim (test g) as (λ (b : Bool). list_any (same_feature f) (cond b (g ∷ filter test fs) (filter test fs)) ≡ false)
    [ true ↦ or_from (same_feature f g) (list_any (same_feature f) (filter test fs)) parts.0 (not_there f test fs parts.1) | false ↦ not_there f test fs parts.1 ]

filtered_once : (test : BtfFeature → Bool) (fs : List BtfFeature) → AreOnce fs → AreOnce (filter test fs)
filtered_once test [] once = tt
filtered_once test (g ∷ fs) once =
    elim (test g) as (λ (b : Bool). AreOnce (cond b (g ∷ filter test fs) (filter test fs)))
    [ true ↦ (not_there g test fs once.0, filtered_once test fs once.1) | false ↦ filtered_once test fs once.1 ]

pub each_is_once : (fs : List BtfFeature) → AreOnce (each_once fs)
each_is_once [] = tt
each_is_once (f ∷ fs) = (left_out f (each_once fs), filtered_once (λ g. not (same_feature f g)) (each_once fs) (each_is_once fs))

-- ---- answers

-- no answer is for this feature if none is for an equal feature
no_answer : (f g : BtfFeature) (answers : List FeatureAnswer) → feature_number f ≡ feature_number g → list_any (same_feature f) (map (λ (answer : FeatureAnswer). answer.feature) answers) ≡ false
    → filter (λ (answer : FeatureAnswer). same_feature answer.feature g) answers ≡ []
no_answer f g [] same absent = refl
no_answer f g (answer ∷ answers) same absent =
    let parts = or_parts (same_feature f answer.feature) (list_any (same_feature f) (map (λ (a : FeatureAnswer). a.feature) answers)) absent in
    let differs : same_feature answer.feature g ≡ false = false_from_ne_true (same_feature answer.feature g) (λ e. true≢false (sym (eq-eqb (feature_number f) (feature_number answer.feature) (same ∙ sym (eqb-true (feature_number answer.feature) (feature_number g) e))) ∙ parts.0)) in
    ap (λ (b : Bool). cond b (answer ∷ filter (λ (a : FeatureAnswer). same_feature a.feature g) answers) (filter (λ (a : FeatureAnswer). same_feature a.feature g) answers)) differs ∙ no_answer f g answers same parts.1

pub granted_once : (answers : List FeatureAnswer) (f : BtfFeature) → AreOnce (map (λ (answer : FeatureAnswer). answer.feature) answers) → grants answers f ≡ true → IsGrantedOnce answers f
granted_once [] f once granted = absurd (false≢true granted)
granted_once (answer ∷ answers) f once granted =
    elim (same_feature answer.feature f) as (λ (b : Bool). b ≡ same_feature answer.feature f → (if b then answer.granted else grants answers f) ≡ true
    → map (λ (a : FeatureAnswer). a.granted) (cond b (answer ∷ filter (λ (a : FeatureAnswer). same_feature a.feature f) answers) (filter (λ (a : FeatureAnswer). same_feature a.feature f) answers)) ≡ true ∷ []) [
      | true ↦ λ is granted_first. ap (λ (rest : List FeatureAnswer). answer.granted ∷ map (λ (a : FeatureAnswer). a.granted) rest) (no_answer answer.feature f answers (eqb-true (feature_number answer.feature) (feature_number f) (sym is)) once.0) ∙ ap (λ (b : Bool). b ∷ []) granted_first
      | false ↦ λ is granted_later. granted_once answers f once.1 granted_later
    ] refl granted
