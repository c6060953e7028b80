-- The answers that a rewrite gets are the bits of a kernel.
use Rattle.std.proofs.Common.{◌≡◌, ℕ, ◌<◌, ◌≤◌, ◌||◌, eqb, eqb-true, List, [], ◌∷◌, length, Bool, true, false, Option, None, Some, Result, Ok, Err, IfOk, refl, sym, subst, arith}
use Rattle.std.specs.List.{list_any}
use Rattle.std.proofs.lemmas.Bool.{false≢true}
use Rattle.std.proofs.lemmas.List.{length-map}
use Rattle.std.proofs.lemmas.Map.Steps.{length-le_from_distinct_below}
use Rattle.btf_rewrite_model.specs.Feature.{feature_number}
use Rattle.btf_rewrite_model.specs.declared.feature.BtfFeature.TheVariants as features
use Rattle.btf_table.specs.Features.{numbers, AreDistinct}
use Rattle.std.specs.Prelude.{IfSome, OnOk}
use Rattle.arrayvec.specs.declared.array_vec.ArrayVec.{ArrayVec}
use Rattle.btf_model.specs.Refusal.{Refusal}
use Rattle.btf_model.specs.Table.{Table}
use Rattle.btf_rewrite_model.specs.declared.feature.FillPolicy.{FillPolicy}
use Rattle.btf_rewrite_model.specs.declared.ksyms_ids.KsymsIds.{KsymsIds}
use Rattle.btf_rewrite_model.specs.Pass.{Layout}
use Rattle.btf_rewrite_model.specs.declared.feature.BtfFeature.{BtfFeature}
use Rattle.btf_rewrite_model.specs.declared.feature.FeatureAnswer.{FeatureAnswer}
use Rattle.btf_table.specs.Rewrites.{Rewrites, NeedsAreGranted}
use Rattle.btf.specs.Features.{Called}
use Rattle.btf_plain.specs.declared.error.BtfError.{BtfError}
use Rattle.btf_plain.specs.Error.{MeetsOrNoMemory, refusal_of}
use Rattle.btf_rewrite_model.specs.FeatureSet.{has_bit}
use Rattle.vbtf.specs.Kernel.{AreAnswersOf, RewritesForKernel}

-- a predicate that gives these answers for every feature
pub all_of : {F : Type 0} (step : F → BtfFeature → Bool → F → Type 0) (features : ℕ) (Is : F → Type 0)
    → ((f g : F) (feature : BtfFeature) (granted : Bool) → Is f → step f feature granted g → (granted ≡ has_bit features feature) × Is g)
    → (before : F) (answers : List FeatureAnswer) (after : F) → Is before → Called step before answers after → AreAnswersOf features answers
all_of step features Is each before [] after is called = tt
all_of step features Is each before (a ∷ answers) after is called =
    let one = each before called.0 a.feature a.granted is called.1 in (one.0, all_of step features Is each called.0 answers after one.1 called.2)

some_map : {P Q : Refusal → Type 0} (o : Option Refusal) → ((r : Refusal) → P r → Q r) → IfSome o P → IfSome o Q
some_map None f p = p
some_map (Some r) f p = f r p

number_lt : (f : BtfFeature) → feature_number f < 8
number_lt features.Func = omega arith
number_lt features.FuncGlobal = omega arith
number_lt features.DataSec = omega arith
number_lt features.DataSecZero = omega arith
number_lt features.Float = omega arith
number_lt features.DeclTag = omega arith
number_lt features.TypeTag = omega arith
number_lt features.Enum64 = omega arith

numbers_lt : (answers : List FeatureAnswer) (q : ℕ) → list_any (eqb q) (numbers answers) ≡ true → q < 8
numbers_lt [] q is = absurd (false≢true is)
numbers_lt (a ∷ answers) q is =
    elim (eqb q (feature_number a.feature)) as (λ (b : Bool). eqb q (feature_number a.feature) ≡ b → (b || list_any (eqb q) (numbers answers)) ≡ true → q < 8) [
      | true ↦ λ same _. subst (λ (n : ℕ). n < 8) (sym (eqb-true q (feature_number a.feature) same)) (number_lt a.feature)
      | false ↦ λ _ among. numbers_lt answers q among
    ] refl is

-- there are at most eight answers to distinct features
pub few_answers : (answers : List FeatureAnswer) → AreDistinct answers → length answers ≤ 8
few_answers answers distinct =
    let most : length (numbers answers) ≤ 8 = length-le_from_distinct_below (numbers answers) 8 distinct (numbers_lt answers) in
    omega (arith, most, length-map answers (λ (a : FeatureAnswer). feature_number a.feature))

-- a rewrite with these answers is one for the kernel
pub for_kernel : (features : ℕ) (policy : FillPolicy) (old : Table) (ids : Option KsymsIds) (layout : Layout) (new : Table) (asked : List FeatureAnswer) (r : Result (ArrayVec FeatureAnswer 8 (Unit {0})) BtfError)
    → AreAnswersOf features asked → IfOk r (λ a. a.items ≡ asked) → MeetsOrNoMemory (λ a. a.items) r (Rewrites (record { policy = policy; ksyms = ids; layout = layout }) old asked new)
    → MeetsOrNoMemory (λ a. a.items) r (RewritesForKernel features (record { policy = policy; ksyms = ids; layout = layout }) old new)
for_kernel features policy old ids layout new asked (Ok a) of is rewrites =
    (subst (λ xs. AreAnswersOf features xs) (sym is) of, subst (λ xs. Rewrites {X = List FeatureAnswer} (record { policy = policy; ksyms = ids; layout = layout }) old xs new (Ok a.items)) (sym is) rewrites)
for_kernel features policy old ids layout new asked (Err e) of is refused =
    some_map (refusal_of e) (λ r found. (asked, of, found)) refused

-- the same for equal tables and layouts
pub for_handle : (features : ℕ) (policy : FillPolicy) (ids : Option KsymsIds) (t old : Table) (l layout : Layout) (n new : Table) (r : Result (List FeatureAnswer) Refusal)
    → t ≡ old → l ≡ layout → new ≡ n → RewritesForKernel features (record { policy = policy; ksyms = ids; layout = l }) t n r → RewritesForKernel features (record { policy = policy; ksyms = ids; layout = layout }) old new r
for_handle features policy ids t old l layout n new r same_old same_layout same_new rewrites =
    subst (λ x. RewritesForKernel features (record { policy = policy; ksyms = ids; layout = layout }) x new r) same_old
    (subst (λ x. RewritesForKernel features (record { policy = policy; ksyms = ids; layout = x }) t new r) same_layout (subst (λ x. RewritesForKernel features (record { policy = policy; ksyms = ids; layout = l }) t x r) (sym same_new) rewrites))

-- the features that the answers grant, of equal answers, policies and ids
pub granted_for : (policy other : FillPolicy) (old new : Table) (ids same : Option KsymsIds) (asked : List FeatureAnswer) (r : Result (ArrayVec FeatureAnswer 8 (Unit {0})) BtfError)
    → policy ≡ other → ids ≡ same → IfOk r (λ a. a.items ≡ asked) → OnOk r (NeedsAreGranted policy ids asked old new)
    → IfOk r (λ a. NeedsAreGranted other same a.items old new)
granted_for policy other old new ids same asked (Ok a) p i is granted =
    subst (λ x. NeedsAreGranted x same a.items old new) p
    (subst (λ x. NeedsAreGranted policy x a.items old new) i (subst (λ x. NeedsAreGranted policy ids x old new) (sym is) granted))
granted_for policy other old new ids same asked (Err e) p i is granted = tt

pub carried : (R : Table → Table → Type 0) (t old n new : Table) → t ≡ old → new ≡ n → R t n → R old new
carried R t old n new same_old same_new r = subst (λ x. R x new) same_old (subst (λ x. R t x) (sym same_new) r)
