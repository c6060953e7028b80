-- A list of distinct features has room for one that is not in it.
use Rattle.std.proofs.Common.{◌≡◌, ℕ, ◌<◌, ◌≤◌, eqb, Bool, true, false, ◌||◌, List, [], ◌∷◌, ◌++◌, length, eqb-true, None, Some, refl, sym, subst, arith}
use Rattle.std.specs.Prelude.{if◌then◌else◌}
use Rattle.std.specs.List.{IsDistinct, AllByRecursion, list_any}
use Rattle.std.proofs.lemmas.Bool.{false≢true}
use Rattle.std.proofs.lemmas.Option.{none-some}
use Rattle.std.proofs.lemmas.List.{length-append, length-map, map-append}
use Rattle.std.proofs.lemmas.Map.Steps.{length-le_from_distinct_below}
use Rattle.btf_rewrite_model.specs.declared.feature.BtfFeature.TheVariants as features
use Rattle.btf_rewrite_model.specs.Feature.{feature_number, same_feature, answer_to}
use Rattle.btf_rewrite_model.specs.declared.feature.BtfFeature.{BtfFeature}
use Rattle.btf_rewrite_model.specs.declared.feature.FeatureAnswer.{FeatureAnswer}
use Rattle.btf_table.specs.Features.{numbers, AreDistinct}

number_lt : (f : BtfFeature) → feature_number f < 8
number_lt features.Func = omega arith
number_lt features.FuncGlobal = omega arith
number_lt features.DataSec = omega arith
number_lt features.DataSecZero = omega arith
number_lt features.Float = omega arith
number_lt features.DeclTag = omega arith
number_lt features.TypeTag = omega arith
number_lt features.Enum64 = omega arith

numbers_lt : (answers : List FeatureAnswer) (q : ℕ) → list_any (eqb q) (numbers answers) ≡ true → q < 8
numbers_lt [] q is = absurd (false≢true is)
numbers_lt (a ∷ answers) q is =
    elim (eqb q (feature_number a.feature)) as (λ (b : Bool). eqb q (feature_number a.feature) ≡ b → (b || list_any (eqb q) (numbers answers)) ≡ true → q < 8) [
      | true ↦ λ same _. subst (λ (n : ℕ). n < 8) (sym (eqb-true q (feature_number a.feature) same)) (number_lt a.feature)
      | false ↦ λ _ among. numbers_lt answers q among
    ] refl is

-- none of these is n
abbrev IsNew : ℕ → List ℕ → Type 0
IsNew n ns = AllByRecursion (λ (m : ℕ). eqb m n ≡ false) ns

new_of_none : (answers : List FeatureAnswer) (f : BtfFeature) → answer_to answers f ≡ None → IsNew (feature_number f) (numbers answers)
new_of_none [] f none = tt
new_of_none (a ∷ answers) f none =
    elim (same_feature a.feature f) as (λ (b : Bool).
    same_feature a.feature f ≡ b → (if b then Some a.granted else answer_to answers f) ≡ None
    → IsNew (feature_number f) (numbers (a ∷ answers))) [
      | true ↦ λ same some. absurd (none-some a.granted (sym some))
      | false ↦ λ other rest. (other, new_of_none answers f rest)
    ] refl none

with_new : (ns : List ℕ) (n : ℕ) → IsDistinct eqb ns → IsNew n ns → IsDistinct eqb (ns ++ n ∷ [])
unfolding IsDistinct
with_new [] n distinct new = (tt, tt)
with_new (m ∷ ns) n distinct new = (apart ns distinct.0, with_new ns n distinct.1 new.1)
  where
    apart : (ks : List ℕ) → AllByRecursion (λ (k : ℕ). eqb m k ≡ false) ks → AllByRecursion (λ (k : ℕ). eqb m k ≡ false) (ks ++ n ∷ [])
    apart [] all = (new.0, tt)
    apart (k ∷ ks) all = (all.0, apart ks all.1)

-- An answer to a feature that has none leaves them distinct.
pub distinct_with : (answers : List FeatureAnswer) (a : FeatureAnswer) → AreDistinct answers → answer_to answers a.feature ≡ None → AreDistinct (answers ++ a ∷ [])
distinct_with answers a distinct none =
    subst (λ (ns : List ℕ). IsDistinct eqb ns) (sym (map-append (λ (b : FeatureAnswer). feature_number b.feature) answers (a ∷ [])))
    (with_new (numbers answers) (feature_number a.feature) distinct (new_of_none answers a.feature none))

-- If a feature has no answer, there are fewer than eight answers.
pub has_room : (answers : List FeatureAnswer) (a : FeatureAnswer) → AreDistinct answers → answer_to answers a.feature ≡ None → length answers < 8
has_room answers a distinct none =
    let all : List FeatureAnswer = answers ++ a ∷ [] in
    let most : length (numbers all) ≤ 8 = length-le_from_distinct_below (numbers all) 8 (distinct_with answers a distinct none) (numbers_lt all) in
    omega (arith, most, length-map all (λ (b : FeatureAnswer). feature_number b.feature), length-append answers (a ∷ []))

pub none_distinct : AreDistinct []
unfolding IsDistinct
none_distinct = tt
