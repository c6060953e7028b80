-- What a pass asks for, and what its predicate is called for.
use Rattle.std.proofs.Common.{◌≡◌, ℕ, suc, ◌<◌, length, arith, Bool, List, [], ◌∷◌, ◌++◌, Option, None, Some, refl, sym, ap, subst, ◌∙◌}
use Rattle.std.specs.List.{list_any}
use Rattle.std.proofs.lemmas.List.{append-nil, append_assoc}
use Rattle.std.proofs.lemmas.List.Folds.{list_any-append}
use Rattle.std.proofs.lemmas.Bool.{or_right}
use Rattle.btf_rewrite_model.specs.Feature.{same_feature, grants, answer_to}
use Rattle.btf_rewrite_model.specs.declared.feature.BtfFeature.{BtfFeature}
use Rattle.btf_rewrite_model.specs.declared.feature.FeatureAnswer.{FeatureAnswer}
use Rattle.btf_rewrite_model.specs.Pass.{Pass, asks_below, each_once, Asked}
use Rattle.btf_rewrite_model.specs.Pass.{asks as model_asks}
use Rattle.btf_rewrite_model.specs.RewriteLaws.{IsAmong}
use Rattle.btf_rewrite_model.specs.Passing.{AreAnswersTo, features_of, IsPassAt}
use Rattle.btf_rewrite_model.proofs.Passing.{NextAnswers, AnswersWith, asked_next, grants_append, among_each, further_same, asks_begin, each_once_begins}
use Rattle.btf_table.specs.Features.{Resolver, AsksResolver, AsksFor, Called, IsFurther}
use Rattle.btf_table.specs.PassStep.{HasAsked, AsksUpTo, BeginsAsked}

-- ---- the predicate

called_next : {F : Type 0} (step : F → BtfFeature → Bool → F → Type 0) (first before after : F) (answers : List FeatureAnswer) (f : BtfFeature) (granted : Bool) → Called step first answers before → step before f granted after
    → Called step first (answers ++ record { feature = f; granted = granted } ∷ []) after
called_next step first before after [] f granted called now = (after, subst (λ s. step s f granted after) called now, refl)
called_next step first before after (a ∷ answers) f granted called now = (called.0, called.1, called_next step called.0 before after answers f granted called.2 now)

-- asking for a feature is one call of the predicate, or nothing
pub asks_called : {F : Type 0} (step : F → BtfFeature → Bool → F → Type 0) (first : F) (f : BtfFeature) (old new : Resolver F) (granted : Bool) → AsksResolver step f old granted new → Called step first old.answers old.predicate → Called step first new.answers new.predicate
asks_called {F} step first f old new granted asks called =
    elim (answer_to old.answers f) as (λ (o : Option Bool). AsksFor step f o old granted new → Called step first new.answers new.predicate) [
      | None ↦ λ one. subst (λ answers. Called step first answers new.predicate) (sym one.1) (called_next step first old.predicate new.predicate old.answers f granted called one.0)
      | Some was ↦ λ same. subst (λ (s : Resolver F). Called step first s.answers s.predicate) (sym same.1) called
    ] asks

-- and appends one answer, or none
pub asks_further : {F : Type 0} (step : F → BtfFeature → Bool → F → Type 0) (f : BtfFeature) (old new : Resolver F) (granted : Bool) → AsksResolver step f old granted new → IsFurther old.answers new.answers
asks_further {F} step f old new granted asks =
    elim (answer_to old.answers f) as (λ (o : Option Bool). AsksFor step f o old granted new → IsFurther old.answers new.answers) [
      | None ↦ λ one. (record { feature = f; granted = granted } ∷ [], one.1)
      | Some was ↦ λ same. ([], ap (λ (s : Resolver F). s.answers) same.1 ∙ sym (append-nil old.answers))
    ] asks

pub further_then : (old mid new : List FeatureAnswer) → IsFurther old mid → IsFurther mid new → IsFurther old new
further_then old mid new one two = (one.0 ++ two.0, two.1 ∙ ap (λ xs. xs ++ two.0) one.1 ∙ append_assoc old one.0 two.0)

pub further_none : (old : List FeatureAnswer) → IsFurther old old
further_none old = ([], sym (append-nil old))

-- the same for the answers of the definitions
pub further_answers : (old new : List FeatureAnswer) (further : IsFurther old new) → new ≡ old ++ further.0
further_answers old new further = further.1

-- ---- the answers

pub asks_next : {F : Type 0} (step : F → BtfFeature → Bool → F → Type 0) (f : BtfFeature) (old new : Resolver F) (granted : Bool) → AsksResolver step f old granted new
    → NextAnswers old.answers f granted new.answers
asks_next {F} step f old new granted asks =
    elim (answer_to old.answers f) as (λ (o : Option Bool). AsksFor step f o old granted new → AnswersWith o old.answers f granted new.answers) [
      | None ↦ λ one. one.1
      | Some was ↦ λ same. (same.0, ap (λ (s : Resolver F). s.answers) same.1)
    ] asks

-- ---- an id

pub asked_none : (p : Pass) (id : ℕ) → AreAnswersTo (asks_below p id) p.answers → HasAsked p id [] p.answers
asked_none p id asked = record {
  more = [];
  further = sym (append-nil p.answers);
  asked = subst (λ fs. AreAnswersTo fs p.answers) (sym (append-nil (asks_below p id))) asked;
}

-- one more feature is asked for
pub asked_more : (p : Pass) (id : ℕ) (some : List BtfFeature) (answers new : List FeatureAnswer) (f : BtfFeature) (granted : Bool) → HasAsked p id some answers → NextAnswers answers f granted new → HasAsked p id (some ++ f ∷ []) new × (grants new f ≡ granted)
asked_more p id some answers new f granted has next =
    let n = asked_next (asks_below p id ++ some) answers new f granted has.asked next in (
      record {
        more = has.more ++ n.2.0;
        further = n.2.1 ∙ ap (λ xs. xs ++ n.2.0) has.further ∙ append_assoc p.answers has.more n.2.0;
        asked = subst (λ fs. AreAnswersTo fs new) (append_assoc (asks_below p id) some (f ∷ [])) n.0;
      },
      n.1,
    )

-- what was asked for before has the answer that it had
pub asked_kept : (p : Pass) (id : ℕ) (some : List BtfFeature) (answers new : List FeatureAnswer) (f g : BtfFeature) (granted : Bool) → HasAsked p id some answers → NextAnswers answers f granted new → IsAmong g some → grants new g ≡ grants answers g
asked_kept p id some answers new f g granted has next among =
    let n = asked_next (asks_below p id ++ some) answers new f granted has.asked next in
    let there : IsAmong g (asks_below p id ++ some) = list_any-append (same_feature g) (asks_below p id) some ∙ or_right (list_any (same_feature g) (asks_below p id)) (list_any (same_feature g) some) among in
    ap (λ xs. grants xs g) n.2.1 ∙ grants_append answers n.2.0 g (ap (list_any (same_feature g)) has.asked ∙ among_each g (asks_below p id ++ some) there)

-- ---- the whole pass

-- what is asked for at an id are the first features of the whole pass
pub begins_at : (p : Pass) (id : ℕ) (answers : List FeatureAnswer) (left : List BtfFeature) → IsPassAt p id → id < length p.table.records → AsksUpTo p id answers left → BeginsAsked (record p { answers = answers })
begins_at p id answers left at lt asks =
    let q : Pass = record p { answers = answers } in
    let has : HasAsked p id asks.0 answers = asks.1 in
    let below : asks_below q id ≡ asks_below p id =
    ap (λ (xs : List FeatureAnswer). asks_below (record p { answers = xs }) id) has.further ∙ (further_same p id has.more at).asks in
    let some : List BtfFeature = asks_below p id ++ asks.0 in
    let next : asks_below q (suc id) ≡ some ++ left = ap (λ fs. fs ++ model_asks q id) below ∙ ap (λ fs. asks_below p id ++ fs) asks.2 ∙ sym (append_assoc (asks_below p id) asks.0 left) in
    let others = asks_begin q (suc id) (length p.table.records) (omega (arith, lt)) in
    let all : asks_below q (length p.table.records) ≡ some ++ (left ++ others.0) = others.1 ∙ ap (λ fs. fs ++ others.0) next ∙ append_assoc some left others.0 in
    let begins = each_once_begins some (left ++ others.0) in
    (begins.0, ap each_once all ∙ begins.1 ∙ ap (λ fs. fs ++ begins.0) (sym has.asked))

-- all is asked
pub begins_all : (p : Pass) → IsPassAt p (length p.table.records) → BeginsAsked p
begins_all p at = ([], sym at.asked ∙ sym (append-nil (features_of p.answers)))

-- nothing is asked yet
pub begins_none : (p : Pass) → p.answers ≡ [] → BeginsAsked p
begins_none p none = (Asked p, ap (λ (xs : List FeatureAnswer). features_of xs ++ Asked p) (sym none))
