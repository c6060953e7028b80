-- How a pass goes from id to id: the answers to what the ids below ask for are known, and further answers change
-- nothing there.
use Rattle.std.proofs.Common.{◌≡◌, ◌==◌, ℕ, zero, suc, ◌+◌, ◌<◌, ◌≤◌, Bool, true, false, not, cond, ◌||◌, ◌&&◌, List, [], ◌∷◌, ◌++◌, length, Option, None, Some, refl, sym, ap, subst, ◌∙◌, arith, inl, inr}
use Rattle.std.specs.Prelude.{if◌then◌else◌, slice_get}
use Rattle.std.specs.List.{list_any, filter, flat_map, sum_by}
use Rattle.std.specs.Option.{unwrap_or}
use Rattle.std.proofs.lemmas.Bool.{false≢true, true≢false, eqb-true, eq-eqb, cases_order, or_parts, or_right}
use Rattle.std.proofs.lemmas.Option.{none-some, same_Some}
use Rattle.std.proofs.lemmas.List.{map-append, append-nil, append_assoc}
use Rattle.std.proofs.lemmas.List.Elements.{filter-append}
use Rattle.std.proofs.lemmas.List.Folds.{list_any-append}
use Rattle.std.proofs.lemmas.List.Concat.{flat_map-append}
use Rattle.std.proofs.lemmas.List.Sums.{sum_by-append}
use Rattle.btf_rewrite_model.specs.declared.feature.BtfFeature.TheVariants as features
use Rattle.btf_rewrite_model.specs.Feature.{is_sized_and_empty, fills_sized, feature_number, same_feature, grants, has_no_entries, answer_to}
use Rattle.btf_rewrite_model.specs.declared.feature.BtfFeature.{BtfFeature}
use Rattle.btf_rewrite_model.specs.declared.feature.FeatureAnswer.{FeatureAnswer}
use Rattle.btf_rewrite_model.specs.declared.feature.FillPolicy.{FillPolicy}
use Rattle.btf_rewrite_model.specs.Made.{record_at, kind_at}
use Rattle.btf_model.specs.Record as kinds
use Rattle.btf_model.specs.Record.{Kind, Record}
use Rattle.btf_model.specs.Refusal.{Refusal}
use Rattle.btf_model.specs.Table.{Table, type_bytes}
use Rattle.btf_rewrite_model.specs.Checks.{first_fault, record_len}
use Rattle.btf_rewrite_model.specs.declared.ksyms_ids.KsymsIds.{KsymsIds}
use Rattle.btf_rewrite_model.specs.Pass.{Pass, Layout, has, is_unsized, is_zero_or, section_size, texts_by, added_by, asks, asks_below, each_once, Asked, texts, texts_below, texts_len, added, added_below, gets_filler, growth_below, offset_at, free_id, type_len_at}
use Rattle.btf_rewrite_model.specs.Rule.{becomes, ruled_below, falls_back, falls_back_by}
use Rattle.btf_rewrite_model.specs.Fault.{fault, checks_by}
use Rattle.btf_rewrite_model.specs.Rewritten.{AreRuled, Rewritten, IsRefused, pass_of, step_fault, old_count, rewritten, with_zero_byte}
use Rattle.btf_rewrite_model.specs.RewriteLaws.{IsAmong, with_answers, Agree, IsSameBelow}
use Rattle.btf_rewrite_model.specs.Passing.{features_of, AreAnswersTo, IsPassAt, HasMade, is_quiet}
use Rattle.btf_rewrite_model.proofs.Agreeing.{same_below, same_refused}

-- ---- features, each once

same_sym : (f g : BtfFeature) → same_feature f g ≡ same_feature g f
same_sym f g =
    elim (same_feature f g) as (λ (b : Bool). same_feature f g ≡ b → b ≡ same_feature g f) [
      | true ↦ λ is. sym (eq-eqb (feature_number g) (feature_number f) (sym (eqb-true (feature_number f) (feature_number g) is)))
      | false ↦ λ is.
          elim (same_feature g f) as (λ (b : Bool). same_feature g f ≡ b → false ≡ b)
          [ true ↦ λ back. absurd (true≢false (sym (eq-eqb (feature_number f) (feature_number g) (sym (eqb-true (feature_number g) (feature_number f) back))) ∙ is)) | false ↦ λ back. refl ] refl
    ] refl

abbrev pushed : Bool → List BtfFeature → BtfFeature → List BtfFeature
pushed known fs f = if known then fs else fs ++ f ∷ []

-- one more feature is new, or is already in the list
pub each_once_push : (fs : List BtfFeature) (f : BtfFeature) → each_once (fs ++ f ∷ []) ≡ pushed (list_any (same_feature f) fs) (each_once fs) f
each_once_push [] f = refl
each_once_push (g ∷ fs) f =
    let others : List BtfFeature → List BtfFeature = filter (λ h. not (same_feature g h)) in
    let rest : List BtfFeature = each_once fs in
    ap (λ xs. g ∷ others xs) (each_once_push fs f)
    ∙ elim (list_any (same_feature f) fs) as (λ (known : Bool). g ∷ others (pushed known rest f) ≡ pushed (same_feature f g || known) (g ∷ others rest) f) [
      | true ↦ elim (same_feature f g) as (λ (b : Bool). g ∷ others rest ≡ pushed (b || true) (g ∷ others rest) f) [ true ↦ refl | false ↦ refl ]
      | false ↦
          ap (λ xs. g ∷ xs) (filter-append (λ h. not (same_feature g h)) rest (f ∷ [])) ∙ ap (λ (b : Bool). g ∷ (others rest ++ cond (not b) (f ∷ []) [])) (same_sym g f)
          ∙ elim (same_feature f g) as (λ (b : Bool). g ∷ (others rest ++ cond (not b) (f ∷ []) []) ≡ pushed (b || false) (g ∷ others rest) f) [ true ↦ ap (λ xs. g ∷ xs) (append-nil (others rest)) | false ↦ refl ]
    ]

-- what is among features is among the features each once
left_in : (f g : BtfFeature) (fs : List BtfFeature) → same_feature g f ≡ false → IsAmong f fs → IsAmong f (filter (λ h. not (same_feature g h)) fs)
left_in f g [] other among = among
left_in f g (h ∷ fs) other among =
    elim (same_feature g h) as (λ (b : Bool). same_feature g h ≡ b → list_any (same_feature f) (cond (not b) (h ∷ filter (λ k. not (same_feature g k)) fs) (filter (λ k. not (same_feature g k)) fs)) ≡ true) [
      | true ↦ λ is.
          let same : same_feature f h ≡ false = sym (same_sym h f) ∙ ap (λ (n : ℕ). n == feature_number f) (sym (eqb-true (feature_number g) (feature_number h) is)) ∙ other in
          left_in f g fs other (ap (λ (b : Bool). b || list_any (same_feature f) fs) (sym same) ∙ among)
      | false ↦ λ is.
          elim (same_feature f h) as (λ (b : Bool). (b || list_any (same_feature f) fs) ≡ true → (b || list_any (same_feature f) (filter (λ k. not (same_feature g k)) fs)) ≡ true) [ true ↦ λ _. refl | false ↦ λ later. left_in f g fs other later ] among
    ] refl

pub among_each : (f : BtfFeature) (fs : List BtfFeature) → IsAmong f fs → IsAmong f (each_once fs)
among_each f [] among = among
among_each f (g ∷ fs) among =
    elim (same_feature f g) as (λ (b : Bool). same_feature f g ≡ b → (b || list_any (same_feature f) fs) ≡ true → (b || list_any (same_feature f) (filter (λ h. not (same_feature g h)) (each_once fs))) ≡ true)
    [ true ↦ λ _ _. refl | false ↦ λ other later. left_in f g (each_once fs) (sym (same_sym f g) ∙ other) (among_each f fs later) ] refl among

-- ---- answers

-- further answers do not change the answers to features that were answered
pub grants_append : (answers more : List FeatureAnswer) (f : BtfFeature) → IsAmong f (features_of answers) → grants (answers ++ more) f ≡ grants answers f
grants_append [] more f among = absurd (false≢true among)
grants_append (answer ∷ answers) more f among =
    elim (same_feature answer.feature f) as (λ (b : Bool). same_feature answer.feature f ≡ b → (if b then answer.granted else grants (answers ++ more) f) ≡ (if b then answer.granted else grants answers f)) [
      | true ↦ λ _. refl
      | false ↦ λ other. grants_append answers more f (ap (λ (b : Bool). b || list_any (same_feature f) (features_of answers)) (sym (same_sym f answer.feature ∙ other)) ∙ among)
    ] refl

-- the answer to a feature that was not answered
pub grants_new : (answers : List FeatureAnswer) (f : BtfFeature) (granted : Bool) → list_any (same_feature f) (features_of answers) ≡ false → grants (answers ++ record { feature = f; granted = granted } ∷ []) f ≡ granted
grants_new [] f granted absent = ap (λ (b : Bool). if b then granted else false) (eq-eqb (feature_number f) (feature_number f) refl)
grants_new (answer ∷ answers) f granted absent =
    let parts = or_parts (same_feature f answer.feature) (list_any (same_feature f) (features_of answers)) absent in
    ap (λ (b : Bool). if b then answer.granted else grants (answers ++ record { feature = f; granted = granted } ∷ []) f) (same_sym answer.feature f ∙ parts.0) ∙ grants_new answers f granted parts.1

-- Asking for one more feature gives the old answer, or appends a new one.
abbrev pub AnswersWith : Option Bool → List FeatureAnswer → BtfFeature → Bool → List FeatureAnswer → Type 0
AnswersWith (Some was) answers f granted new = (granted ≡ was) × (new ≡ answers)
AnswersWith None answers f granted new = new ≡ answers ++ record { feature = f; granted = granted } ∷ []

abbrev pub NextAnswers : List FeatureAnswer → BtfFeature → Bool → List FeatureAnswer → Type 0
NextAnswers answers f granted new = AnswersWith (answer_to answers f) answers f granted new

answered : (answers : List FeatureAnswer) (f : BtfFeature) (was : Bool) → answer_to answers f ≡ Some was → IsAmong f (features_of answers) × (grants answers f ≡ was)
answered [] f was is = absurd (none-some was is)
answered (answer ∷ answers) f was is =
    elim (same_feature answer.feature f) as (λ (b : Bool). same_feature answer.feature f ≡ b → (if b then Some answer.granted else answer_to answers f) ≡ Some was → ((same_feature f answer.feature || list_any (same_feature f) (features_of answers)) ≡ true) × ((if b then answer.granted else grants answers f) ≡ was)) [
      | true ↦ λ same first. (or_from_left (same_feature f answer.feature) (list_any (same_feature f) (features_of answers)) (same_sym f answer.feature ∙ same), same_Some answer.granted was first)
      | false ↦ λ other later.
          let rest : IsAmong f (features_of answers) × (grants answers f ≡ was) = answered answers f was later in
          (or_right (same_feature f answer.feature) (list_any (same_feature f) (features_of answers)) rest.0, rest.1)
    ] refl is
  where
    or_from_left : (a b : Bool) → a ≡ true → (a || b) ≡ true
    or_from_left true b is_true = refl
    or_from_left false b is_true = absurd (false≢true is_true)

unanswered : (answers : List FeatureAnswer) (f : BtfFeature) → answer_to answers f ≡ None → list_any (same_feature f) (features_of answers) ≡ false
unanswered [] f none = refl
unanswered (answer ∷ answers) f none =
    elim (same_feature answer.feature f) as (λ (b : Bool). same_feature answer.feature f ≡ b → (if b then Some answer.granted else answer_to answers f) ≡ None → (same_feature f answer.feature || list_any (same_feature f) (features_of answers)) ≡ false) [
      | true ↦ λ _ some. absurd (none-some answer.granted (sym some))
      | false ↦ λ other rest. ap (λ (b : Bool). b || list_any (same_feature f) (features_of answers)) (same_sym f answer.feature ∙ other) ∙ unanswered answers f rest
    ] refl none

-- one more feature is asked for
pub asked_next : (fs : List BtfFeature) (answers new : List FeatureAnswer) (f : BtfFeature) (granted : Bool) → AreAnswersTo fs answers → NextAnswers answers f granted new
    → AreAnswersTo (fs ++ f ∷ []) new × (grants new f ≡ granted) × ((more : List FeatureAnswer) × (new ≡ answers ++ more))
asked_next fs answers new f granted asked next =
    elim (answer_to answers f) as (λ (o : Option Bool). answer_to answers f ≡ o → AnswersWith o answers f granted new → AreAnswersTo (fs ++ f ∷ []) new × (grants new f ≡ granted) × ((more : List FeatureAnswer) × (new ≡ answers ++ more))) [
      | None ↦ λ none is.
          let absent : list_any (same_feature f) (features_of answers) ≡ false = unanswered answers f none in
          let new_one : list_any (same_feature f) fs ≡ false = absent_from_each f fs (ap (list_any (same_feature f)) (sym asked) ∙ absent) in (
            ap features_of is ∙ map-append (λ (answer : FeatureAnswer). answer.feature) answers (record { feature = f; granted = granted } ∷ []) ∙ ap (λ xs. xs ++ f ∷ []) asked
                ∙ ap (λ (b : Bool). pushed b (each_once fs) f) (sym new_one) ∙ sym (each_once_push fs f),
            ap (λ (xs : List FeatureAnswer). grants xs f) is ∙ grants_new answers f granted absent,
            (record { feature = f; granted = granted } ∷ [], is),
          )
      | Some was ↦ λ some is.
          let there : IsAmong f (features_of answers) × (grants answers f ≡ was) = answered answers f was some in
          let old_one : list_any (same_feature f) fs ≡ true = each_among f fs (ap (list_any (same_feature f)) (sym asked) ∙ there.0) in (
            ap features_of is.1 ∙ asked ∙ ap (λ (b : Bool). pushed b (each_once fs) f) (sym old_one) ∙ sym (each_once_push fs f),
            ap (λ (xs : List FeatureAnswer). grants xs f) is.1 ∙ there.1 ∙ sym is.0,
            ([], is.1 ∙ sym (append-nil answers)),
          )
    ] refl next
  where
    each_among : (g : BtfFeature) (gs : List BtfFeature) → IsAmong g (each_once gs) → IsAmong g gs
    each_among g [] among = among
    each_among g (h ∷ gs) among =
        elim (same_feature g h) as (λ (b : Bool). (b || list_any (same_feature g) (filter (λ k. not (same_feature h k)) (each_once gs))) ≡ true → (b || list_any (same_feature g) gs) ≡ true)
        [ true ↦ λ _. refl | false ↦ λ later. each_among g gs (filtered_among (each_once gs) (λ k. not (same_feature h k)) later) ] among
      where
        filtered_among : (ks : List BtfFeature) (test : BtfFeature → Bool) → IsAmong g (filter test ks) → IsAmong g ks
        filtered_among [] test inside = inside
        filtered_among (k ∷ ks) test inside =
            elim (test k) as (λ (b : Bool). list_any (same_feature g) (cond b (k ∷ filter test ks) (filter test ks)) ≡ true → (same_feature g k || list_any (same_feature g) ks) ≡ true) [
              | true ↦ λ here. elim (same_feature g k) as (λ (b : Bool). (b || list_any (same_feature g) (filter test ks)) ≡ true → (b || list_any (same_feature g) ks) ≡ true) [ true ↦ λ _. refl | false ↦ λ later. filtered_among ks test later ] here
              | false ↦ λ later. or_right (same_feature g k) (list_any (same_feature g) ks) (filtered_among ks test later)
            ] inside

    absent_from_each : (g : BtfFeature) (gs : List BtfFeature) → list_any (same_feature g) (each_once gs) ≡ false → list_any (same_feature g) gs ≡ false
    absent_from_each g gs absent =
        elim (list_any (same_feature g) gs) as (λ (b : Bool). list_any (same_feature g) gs ≡ b → b ≡ false) [ true ↦ λ is. absurd (true≢false (sym (among_each g gs is) ∙ absent)) | false ↦ λ is. refl ] refl

-- features that come after others do not change the list of each once before them
pub each_once_begins : (fs gs : List BtfFeature) → (rest : List BtfFeature) × (each_once (fs ++ gs) ≡ each_once fs ++ rest)
each_once_begins [] gs = (each_once gs, refl)
each_once_begins (f ∷ fs) gs =
    let others : List BtfFeature → List BtfFeature = filter (λ h. not (same_feature f h)) in
    let inner = each_once_begins fs gs in
    (others inner.0, ap (λ xs. f ∷ others xs) inner.1 ∙ ap (λ xs. f ∷ xs) (filter-append (λ h. not (same_feature f h)) (each_once fs) inner.0))

-- what ids ask for begins with what lower ids ask for
pub asks_begin : (p : Pass) (id count : ℕ) → id ≤ count → (rest : List BtfFeature) × (asks_below p count ≡ asks_below p id ++ rest)
asks_begin p id zero le =
    let none : 0 ≡ id = omega (arith, le) in
    ([], ap (asks_below p) none ∙ sym (append-nil (asks_below p id)))
asks_begin p id (suc count) le =
    elim (cases_order id (suc count)) as (λ c. (rest : List BtfFeature) × (asks_below p (suc count) ≡ asks_below p id ++ rest)) [
      | inl same ↦ ([], ap (asks_below p) (sym same) ∙ sym (append-nil (asks_below p id)))
      | inr other ↦ elim other as (λ c. (rest : List BtfFeature) × (asks_below p (suc count) ≡ asks_below p id ++ rest)) [
        | inl less ↦
            let inner = asks_begin p id count (omega (arith, less)) in
            (inner.0 ++ asks p count, ap (λ fs. fs ++ asks p count) inner.1 ∙ append_assoc (asks_below p id) inner.0 (asks p count))
        | inr more ↦ absurd (omega (arith, le, more))
      ]
    ]

-- ---- the pass

-- further answers agree
pub further_agree : (p : Pass) (id : ℕ) (more : List FeatureAnswer) → AreAnswersTo (asks_below p id) p.answers → Agree p (p.answers ++ more) id
further_agree p id more asked f among = grants_append p.answers more f (ap (list_any (same_feature f)) asked ∙ among_each f (asks_below p id) among)

-- so they change nothing below
pub further_same : (p : Pass) (id : ℕ) (more : List FeatureAnswer) → IsPassAt p id → IsSameBelow p (p.answers ++ more) id
further_same p id more at = same_below p (p.answers ++ more) id (further_agree p id more at.asked) at.ruled

among_up_to : (p : Pass) (id j : ℕ) (f : BtfFeature) → j < id → IsAmong f (asks_below p (suc j)) → IsAmong f (asks_below p id)
among_up_to p zero j f less among = absurd (omega (arith, less))
among_up_to p (suc id) j f less among =
    elim (cases_order j id) as (λ c. IsAmong f (asks_below p (suc id))) [
      | inl same ↦ subst (λ (n : ℕ). IsAmong f (asks_below p (suc n))) same among
      | inr other ↦ elim other as (λ c. IsAmong f (asks_below p (suc id))) [
        | inl lower ↦ list_any-append (same_feature f) (asks_below p id) (asks p id) ∙ from_left (list_any (same_feature f) (asks_below p id)) (list_any (same_feature f) (asks p id)) (among_up_to p id j f lower among)
        | inr above ↦ absurd (omega (arith, less, above))
      ]
    ]
  where
    from_left : (a b : Bool) → a ≡ true → (a || b) ≡ true
    from_left true b is = refl
    from_left false b is = absurd (false≢true is)

-- none of the ids below is refused under further answers
pub further_ruled : (p : Pass) (id : ℕ) (more : List FeatureAnswer) → IsPassAt p id → AreRuled (with_answers p (p.answers ++ more)) id
further_ruled p id more at j less =
    same_refused p (p.answers ++ more) j (λ f among. further_agree p id more at.asked f (among_up_to p id j f less among)) (λ k below. at.ruled k (omega (arith, below, less))) ∙ at.ruled j less

-- the answers to what this id and lower ids ask for
pub asked_to : (p : Pass) (id : ℕ) (more : List FeatureAnswer) → IsPassAt p id → AreAnswersTo (asks_below p id ++ asks (with_answers p (p.answers ++ more)) id) (p.answers ++ more) → AreAnswersTo (asks_below (with_answers p (p.answers ++ more)) (suc id)) (p.answers ++ more)
asked_to p id more at asked = asked ∙ ap (λ (fs : List BtfFeature). each_once (fs ++ asks (with_answers p (p.answers ++ more)) id)) (sym (further_same p id more at).asks)

-- The pass completes one more id: what it asks for is answered after the others, and it is not refused.
pub goes_on : (p : Pass) (id : ℕ) (more : List FeatureAnswer) → IsPassAt p id → AreAnswersTo (asks_below p id ++ asks (with_answers p (p.answers ++ more)) id) (p.answers ++ more) → fault (with_answers p (p.answers ++ more)) id ≡ None
    → IsPassAt (with_answers p (p.answers ++ more)) (suc id)
goes_on p id more at asked passed =
    let q : Pass = with_answers p (p.answers ++ more) in
    record {
      asked = asked_to p id more at asked;
      ruled = λ j lt.
          elim (cases_order j id) as (λ c. fault q j ≡ None) [
            | inl same ↦ ap (fault q) same ∙ passed
            | inr other ↦ elim other as (λ c. fault q j ≡ None) [
              | inl less ↦ further_ruled p id more at j less
              | inr above ↦ absurd (omega (arith, lt, above))
            ]
          ];
    }

-- What this id and lower ids append and become, after the pass has completed the lower ids.
pub record Grows (p : Pass) (more : List FeatureAnswer) (id : ℕ) : Type 0 where
  pub texts : texts_below (with_answers p (p.answers ++ more)) (suc id) ≡ texts_below p id ++ texts (with_answers p (p.answers ++ more)) id
  pub added : added_below (with_answers p (p.answers ++ more)) (suc id) ≡ added_below p id ++ added (with_answers p (p.answers ++ more)) id
  pub growth : growth_below (with_answers p (p.answers ++ more)) (suc id) ≡ growth_below p id + (if gets_filler (with_answers p (p.answers ++ more)) id then 12 else 0)
  pub ruled : ruled_below (with_answers p (p.answers ++ more)) (suc id) ≡ ruled_below p id ++ becomes (with_answers p (p.answers ++ more)) id ∷ []
  pub offset : offset_at (with_answers p (p.answers ++ more)) id ≡ offset_at p id
  pub free : free_id (with_answers p (p.answers ++ more)) id ≡ free_id p id
  pub type_len : type_len_at (with_answers p (p.answers ++ more)) id ≡ type_len_at p id

pub grows : (p : Pass) (more : List FeatureAnswer) (id : ℕ) → IsPassAt p id → Grows p more id
grows p more id at =
    let q : Pass = with_answers p (p.answers ++ more) in
    let same : IsSameBelow p (p.answers ++ more) id = further_same p id more at in
    record {
      texts = ap (λ ts. ts ++ texts q id) same.texts;
      added = ap (λ rs. rs ++ added q id) same.added;
      growth = ap (λ (n : ℕ). n + (if gets_filler q id then 12 else 0)) same.growth;
      ruled = ap (λ rs. rs ++ becomes q id ∷ []) same.ruled;
      offset = ap (λ ts. length p.table.strings + texts_len ts) same.texts;
      free = ap (λ (rs : List Record). length p.table.records + length rs) same.added;
      type_len = ap (λ (rs : List Record). length (type_bytes p.table) + sum_by record_len rs + growth_below q id) same.added ∙ ap (λ (n : ℕ). length (type_bytes p.table) + sum_by record_len (added_below p id) + n) same.growth;
    }

-- ---- the end

-- A pass that has completed all ids is a rewrite, and the answers are to what it asks for.
pub passes : (policy : FillPolicy) (old : Table) (ids : Option KsymsIds) (layout : Layout) (answers : List FeatureAnswer) → step_fault old ids ≡ None → IsPassAt (pass_of policy old ids layout answers) (old_count (pass_of policy old ids layout answers))
    → Rewritten policy old ids layout answers (rewritten (pass_of policy old ids layout answers)) × (features_of answers ≡ Asked (pass_of policy old ids layout answers))
passes policy old ids layout answers step at = (record { step = step; ruled = at.ruled; table = refl }, at.asked)

-- A pass that is refused at an id is a rewrite that is refused for this reason.
pub is_refused_at : (policy : FillPolicy) (old : Table) (ids : Option KsymsIds) (layout : Layout) (answers : List FeatureAnswer) (id : ℕ) (refusal : Refusal) → step_fault old ids ≡ None → id < old_count (pass_of policy old ids layout answers)
    → AreRuled (pass_of policy old ids layout answers) id → fault (pass_of policy old ids layout answers) id ≡ Some refusal → IsRefused policy old ids layout answers refusal
is_refused_at policy old ids layout answers id refusal step lt ruled faults = inr (step, (id, (lt, ruled, faults)))

-- ---- what is made

-- at first nothing is made
pub made_at_first : (p : Pass) → HasMade p 0 [] [] [] (length (type_bytes p.table))
made_at_first p = record { strings_are = refl; types_are = refl; new_are = refl; type_len_is = omega arith }

-- One more id adds what it appends.
pub made_next : (p : Pass) (id : ℕ) (more : List FeatureAnswer) (strings : List ℕ) (types new : List Record) (type_len : ℕ) → IsPassAt p id → HasMade p id strings types new type_len
    → HasMade (with_answers p (p.answers ++ more)) (suc id) (strings ++ flat_map with_zero_byte (texts (with_answers p (p.answers ++ more)) id)) (types ++ added (with_answers p (p.answers ++ more)) id)
    (new ++ becomes (with_answers p (p.answers ++ more)) id ∷ [])
    (type_len + sum_by record_len (added (with_answers p (p.answers ++ more)) id) + (if gets_filler (with_answers p (p.answers ++ more)) id then 12 else 0))
made_next p id more strings types new type_len at made =
    let q : Pass = with_answers p (p.answers ++ more) in
    let g : Grows p more id = grows p more id at in
    let records : sum_by record_len (added_below q (suc id)) ≡ sum_by record_len (added_below p id) + sum_by record_len (added q id) =
    ap (sum_by record_len) g.added ∙ sum_by-append record_len (added_below p id) (added q id) in
    record {
      strings_are = ap (λ xs. xs ++ flat_map with_zero_byte (texts q id)) made.strings_are ∙ sym (flat_map-append with_zero_byte (texts_below p id) (texts q id)) ∙ ap (flat_map with_zero_byte) (sym g.texts);
      types_are = ap (λ rs. rs ++ added q id) made.types_are ∙ sym g.added;
      new_are = ap (λ rs. rs ++ becomes q id ∷ []) made.new_are ∙ sym g.ruled;
      type_len_is = omega (arith, made.type_len_is, records, g.growth);
    }

-- ---- ids that append nothing

pub record IsQuiet (p : Pass) (id : ℕ) : Type 0 where
  pub no_texts : texts p id ≡ []
  pub none_added : added p id ≡ []
  pub no_filler : gets_filler p id ≡ false
  pub no_fault : fault p id ≡ None
  pub fallback : falls_back p id ≡ unwrap_or (slice_get p.table.fallbacks id) None

-- An id of such a kind appends nothing, and is not refused.
pub quiet : (p : Pass) (id : ℕ) → is_quiet (kind_at p.table id) ≡ true → IsQuiet p id
quiet p id is = record {
  no_texts = no_texts (kind_at p.table id) is;
  none_added = none_added (kind_at p.table id) is;
  no_filler = no_filler (kind_at p.table id) is;
  no_fault = ap first_fault (no_checks (kind_at p.table id) is);
  fallback = old_fallback (kind_at p.table id) is;
}
  where
    no_texts : (k : Option Kind) → is_quiet k ≡ true → texts_by p id k (record_at p.table id) ≡ []
    no_texts (Some kinds.Func) quiet_kind = refl
    no_texts (Some kinds.FuncProto) quiet_kind = absurd (false≢true quiet_kind)
    no_texts (Some kinds.Enum64) quiet_kind = absurd (false≢true quiet_kind)
    no_texts (Some kinds.DataSec) quiet_kind = absurd (false≢true quiet_kind)
    no_texts k quiet_kind = refl

    none_added : (k : Option Kind) → is_quiet k ≡ true → added_by p (free_id p id) id k ≡ []
    none_added (Some kinds.Enum64) quiet_kind = absurd (false≢true quiet_kind)
    none_added (Some kinds.DataSec) quiet_kind = absurd (false≢true quiet_kind)
    none_added k quiet_kind = refl

    never : (d s h : Bool) → (d && ((s && false && h) || false)) ≡ false
    never true true h = refl
    never true false h = refl
    never false s h = refl

    no_filler : (k : Option Kind) → is_quiet k ≡ true
        → (has p features.DataSec && ((fills_sized p.policy && is_sized_and_empty k (record_at p.table id) && not (has p features.DataSecZero))
        || (is_unsized k (record_at p.table id) && has_no_entries (record_at p.table id) && is_zero_or (not (has p features.DataSecZero)) (section_size p id)))) ≡ false
    no_filler (Some kinds.DataSec) quiet_kind = absurd (false≢true quiet_kind)
    no_filler k quiet_kind = never (has p features.DataSec) (fills_sized p.policy) (not (has p features.DataSecZero))

    no_checks : (k : Option Kind) → is_quiet k ≡ true → checks_by p id k (record_at p.table id) ≡ []
    no_checks (Some kinds.Func) quiet_kind = absurd (false≢true quiet_kind)
    no_checks (Some kinds.FuncProto) quiet_kind = absurd (false≢true quiet_kind)
    no_checks (Some kinds.Enum64) quiet_kind = absurd (false≢true quiet_kind)
    no_checks (Some kinds.DataSec) quiet_kind = absurd (false≢true quiet_kind)
    no_checks k quiet_kind = refl

    old_fallback : (k : Option Kind) → is_quiet k ≡ true → falls_back_by p k (record_at p.table id) (unwrap_or (slice_get p.table.fallbacks id) None) ≡ unwrap_or (slice_get p.table.fallbacks id) None
    old_fallback (Some kinds.Enum64) quiet_kind = absurd (false≢true quiet_kind)
    old_fallback k quiet_kind = refl
