-- What a pass makes once, at the least id that needs it: the member type of ENUM64s, and the filler.
use Rattle.std.proofs.Common.{◌≡◌, ◌==◌, ℕ, zero, suc, ◌<◌, ◌≤◌, Bool, true, false, not, ◌&&◌, List, Option, None, Some, refl, sym, ap, ◌∙◌, arith, inl, inr}
use Rattle.std.specs.Prelude.{if◌then◌else◌}
use Rattle.std.proofs.lemmas.Bool.{false≢true, eqb-true, eq-eqb, cases_order, false_from_ne_true}
use Rattle.btf_model.specs.Record as kinds
use Rattle.btf_model.specs.Record.{Kind, Record}
use Rattle.btf_rewrite_model.specs.declared.feature.BtfFeature.TheVariants as features
use Rattle.btf_rewrite_model.specs.Feature.{grants}
use Rattle.btf_rewrite_model.specs.declared.feature.FeatureAnswer.{FeatureAnswer}
use Rattle.btf_rewrite_model.specs.Made.{kind_at}
use Rattle.btf_rewrite_model.specs.Pass.{Pass, has, least, passing_or, is_least, is_enum64, wants_member_type, gets_filler}
use Rattle.btf_rewrite_model.specs.Rewritten.{AreRuled}
use Rattle.btf_rewrite_model.specs.RewriteLaws.{with_answers, Agree}
use Rattle.btf_rewrite_model.specs.Passing.{MadeBelow}
use Rattle.btf_rewrite_model.proofs.Agreeing.{AgreeAt, agree_at, agree_of, is_least_alike, filler_same, named_of_ruled}

-- ---- the least

least_of_none : (test : ℕ → Bool) (n : ℕ) → ((j : ℕ) → j < n → test j ≡ false) → least test n ≡ n
least_of_none test zero none = refl
least_of_none test (suc n) none =
    let below : least test n ≡ n = least_of_none test n (λ j lt. none j (omega (arith, lt))) in
    ap (λ (m : ℕ). passing_or test m (suc n)) below ∙ ap (λ (b : Bool). if b then n else suc n) (none n (omega arith))

both : (a b : Bool) → (a && b) ≡ true → (a ≡ true) × (b ≡ true)
both true true is = (refl, refl)
both true false is = absurd (false≢true is)
both false b is = absurd (false≢true is)

least_of_first : (test : ℕ → Bool) (k n : ℕ) → is_least test k ≡ true → k ≤ n → least test n ≡ k
least_of_first test k zero first le =
    let none : k ≡ 0 = omega (arith, le) in
    sym none
least_of_first test k (suc n) first le =
    let parts : (test k ≡ true) × ((least test k == k) ≡ true) = both (test k) (least test k == k) first in
    elim (cases_order k (suc n)) as (λ c. least test (suc n) ≡ k) [
      | inl same ↦ ap (least test) (sym same) ∙ eqb-true (least test k) k parts.1
      | inr other ↦ elim other as (λ c. least test (suc n) ≡ k) [
        | inl less ↦ ap (λ (m : ℕ). passing_or test m (suc n)) (least_of_first test k n first (omega (arith, less))) ∙ ap (λ (b : Bool). if b then k else suc n) parts.0
        | inr more ↦ absurd (omega (arith, le, more))
      ]
    ]

-- ---- made once

pub none_below_zero : (test : ℕ → Bool) (number : ℕ → ℕ) → MadeBelow test number 0 None
none_below_zero test number j lt = absurd (omega (arith, lt))

-- if nothing is made yet, the next id that passes the test makes it
pub makes_first : (test : ℕ → Bool) (number : ℕ → ℕ) (n : ℕ) → MadeBelow test number n None → is_least test n ≡ test n
makes_first test number n none =
    ap (λ (m : ℕ). test n && (m == n)) (least_of_none test n none) ∙ ap (λ (b : Bool). test n && b) (eq-eqb n n refl) ∙ and_true (test n)
  where
    and_true : (b : Bool) → (b && true) ≡ b
    and_true true = refl
    and_true false = refl

pub made_first : (test : ℕ → Bool) (number : ℕ → ℕ) (n : ℕ) → MadeBelow test number n None → test n ≡ true → MadeBelow test number (suc n) (Some (number n))
made_first test number n none passes = (n, omega arith, makes_first test number n none ∙ passes, refl)

pub none_next : (test : ℕ → Bool) (number : ℕ → ℕ) (n : ℕ) → MadeBelow test number n None → test n ≡ false → MadeBelow test number (suc n) None
none_next test number n none fails j lt =
    elim (cases_order j n) as (λ c. test j ≡ false) [
      | inl same ↦ ap test same ∙ fails
      | inr other ↦ elim other as (λ c. test j ≡ false) [ inl less ↦ none j less | inr more ↦ absurd (omega (arith, lt, more)) ]
    ]

-- after it is made, no later id makes it, and its number does not change
pub makes_no_second : (test : ℕ → Bool) (number : ℕ → ℕ) (n made : ℕ) → MadeBelow test number n (Some made) → is_least test n ≡ false
makes_no_second test number n made m =
    let k : ℕ = m.0 in
    let at : least test n ≡ k = least_of_first test k n m.2 (omega (arith, m.1)) in
    let differs : (least test n == n) ≡ false = false_from_ne_true (least test n == n) (λ same. absurd (omega (arith, m.1, at, eqb-true (least test n) n same))) in
    ap (λ (b : Bool). test n && b) differs ∙ and_false (test n)
  where
    and_false : (b : Bool) → (b && false) ≡ false
    and_false true = refl
    and_false false = refl

pub made_next : (test : ℕ → Bool) (number : ℕ → ℕ) (n made : ℕ) → MadeBelow test number n (Some made) → MadeBelow test number (suc n) (Some made)
made_next test number n made m = (m.0, omega (arith, m.1), m.2, m.3)

-- its number, for all ids up to n
pub made_is : (test : ℕ → Bool) (number : ℕ → ℕ) (n made : ℕ) → MadeBelow test number n (Some made) → number (least test n) ≡ made
made_is test number n made m = ap number (least_of_first test m.0 n m.2 (omega (arith, m.1))) ∙ sym m.3

-- if tests and numbers are equal below n
pub made_alike : (test other : ℕ → Bool) (number others : ℕ → ℕ) (n : ℕ) (made : Option ℕ) → ((j : ℕ) → j < n → other j ≡ test j) → ((j : ℕ) → j < n → others j ≡ number j) → MadeBelow test number n made → MadeBelow other others n made
made_alike test other number others n None alike same none = λ j lt. alike j lt ∙ none j lt
made_alike test other number others n (Some made) alike same m =
    (m.0, m.1, is_least_alike other test m.0 (λ j le. alike j (omega (arith, le, m.1))) ∙ m.2, m.3 ∙ sym (same m.0 m.1))

-- ---- under further answers

enum64_alike : (p : Pass) (answers : List FeatureAnswer) (id : ℕ) (k : Option Kind) → kind_at p.table id ≡ k → AgreeAt p answers id → (is_enum64 k && not (grants answers features.Enum64)) ≡ (is_enum64 k && not (has p features.Enum64))
enum64_alike p answers id (Some kinds.Enum64) kind agree = ap not (agree_of p answers id (Some kinds.Enum64) features.Enum64 agree kind refl)
enum64_alike p answers id k kind agree = refl

-- The lower ids that need the member type are the same.
pub member_type_alike : (p : Pass) (answers : List FeatureAnswer) (n : ℕ) → Agree p answers n → (j : ℕ) → j < n → wants_member_type (with_answers p answers) j ≡ wants_member_type p j
member_type_alike p answers n agree j lt = enum64_alike p answers j (kind_at p.table j) refl (agree_at p answers n j lt agree)

-- So are the lower ids that get the filler.
pub filler_alike_below : (p : Pass) (answers : List FeatureAnswer) (n : ℕ) → Agree p answers n → AreRuled p n → (j : ℕ) → j < n → gets_filler (with_answers p answers) j ≡ gets_filler p j
filler_alike_below p answers n agree ruled j lt = filler_same p answers j (agree_at p answers n j lt agree) (named_of_ruled p j (ruled j lt))
