-- A rewrite has the same outcome under the answers to what was asked and under answers to all features that agree with
-- these.
use Rattle.std.proofs.Common.{◌≡◌, ℕ, zero, suc, ◌+◌, ◌<◌, ◌≤◌, List, [], ◌∷◌, ◌++◌, map, Option, None, Some, refl, sym, ap, ◌∙◌, arith, inl, inr}
use Rattle.std.specs.Prelude.{if◌then◌else◌, ◌⊎◌}
use Rattle.std.specs.List.{list_any, flat_map, range_with_len}
use Rattle.std.proofs.lemmas.Bool.{or_left}
use Rattle.std.proofs.lemmas.List.Folds.{list_any-append}
use Rattle.std.proofs.lemmas.Option.{none-some}
use Rattle.btf_model.specs.Record as kinds
use Rattle.btf_model.specs.Record.{Kind, Record}
use Rattle.btf_model.specs.Refusal.{Refusal}
use Rattle.btf_model.specs.Table.{Table, Fallback, no_fallbacks}
use Rattle.btf_rewrite_model.specs.declared.feature.BtfFeature.TheVariants as features
use Rattle.btf_rewrite_model.specs.Feature.{grants, same_feature}
use Rattle.btf_rewrite_model.specs.declared.feature.BtfFeature.{BtfFeature}
use Rattle.btf_rewrite_model.specs.declared.feature.FeatureAnswer.{FeatureAnswer}
use Rattle.btf_rewrite_model.specs.declared.feature.FillPolicy.{FillPolicy}
use Rattle.btf_rewrite_model.specs.Made.{record_at, kind_at, table_ids, enum64_fallback}
use Rattle.btf_rewrite_model.specs.declared.ksyms_ids.KsymsIds.{KsymsIds}
use Rattle.btf_rewrite_model.specs.Pass.{Pass, Layout, added_below, asks_below, each_once, Asked}
use Rattle.btf_rewrite_model.specs.Rule.{ruled_below, falls_back, falls_back_by}
use Rattle.btf_rewrite_model.specs.Rewritten.{step_fault, pass_of, old_count, with_zero_byte, rewritten, AreRuled, Rewritten, FaultsAt, IsRefused}
use Rattle.btf_rewrite_model.specs.RewriteLaws.{IsAmong, with_answers, Agree, IsSameBelow}
use Rattle.btf_rewrite_model.proofs.Agreeing.{AgreeAt, agree_at, agree_of, same_below, same_refused}
use Rattle.btf_rewrite_model.specs.Passing.{features_of}
use Rattle.btf_rewrite_model.proofs.Passing.{among_each, asks_begin}

-- The other answers agree with these answers on each feature that was asked for.
abbrev pub AgreeWith : List FeatureAnswer → List FeatureAnswer → Type 0
AgreeWith answers all = (f : BtfFeature) → IsAmong f (features_of answers) → grants all f ≡ grants answers f

-- ---- what agrees

agree_by : (p : Pass) (all : List FeatureAnswer) (end : ℕ) → features_of p.answers ≡ each_once (asks_below p end) → AgreeWith p.answers all → Agree p all end
agree_by p all end asked agree f among = agree f (ap (list_any (same_feature f)) asked ∙ among_each f (asks_below p end) among)

agree_up_to : (p : Pass) (all : List FeatureAnswer) (end id : ℕ) → id ≤ end → Agree p all end → Agree p all id
agree_up_to p all end id le agree f among =
    let more = asks_begin p id end le in
    agree f
    (ap (list_any (same_feature f)) more.1 ∙ list_any-append (same_feature f) (asks_below p id) more.0
    ∙ or_left (list_any (same_feature f) (asks_below p id)) (list_any (same_feature f) more.0) among)

-- ids that are not refused are not refused under the other answers
ruled_so : (p : Pass) (all : List FeatureAnswer) (end : ℕ) → Agree p all end → AreRuled p end → AreRuled (with_answers p all) end
ruled_so p all end agree ruled id lt =
    same_refused p all id (agree_up_to p all end (suc id) (omega (arith, lt)) agree) (λ low below. ruled low (omega (arith, below, lt))) ∙ ruled id lt

-- ---- fallbacks

falls_back_so : (p : Pass) (all : List FeatureAnswer) (id : ℕ) (k : Option Kind) (old : Option Fallback) → AgreeAt p all id → kind_at p.table id ≡ k
    → falls_back_by (with_answers p all) k (record_at p.table id) old ≡ falls_back_by p k (record_at p.table id) old
falls_back_so p all id (Some kinds.Enum64) old agree kind =
    ap (λ b. if b then old else Some (enum64_fallback (record_at p.table id))) (agree_of p all id (Some kinds.Enum64) features.Enum64 agree kind refl)
falls_back_so p all id k old agree kind = refl

map_within : (f g : ℕ → Option Fallback) (from count : ℕ) → ((id : ℕ) → id < from + count → f id ≡ g id) → map f (range_with_len from count) ≡ map g (range_with_len from count)
map_within f g from zero same = refl
map_within f g from (suc count) same =
    ap (λ x. x ∷ map f (range_with_len (from + 1) count)) (same from (omega arith))
    ∙ ap (λ xs. g from ∷ xs) (map_within f g (from + 1) count (λ id lt. same id (omega (arith, lt))))

-- ---- the rewrite

rewritten_so : (p : Pass) (all : List FeatureAnswer) → Agree p all (old_count p) → AreRuled p (old_count p) → rewritten (with_answers p all) ≡ rewritten p
rewritten_so p all agree ruled =
    let n : ℕ = old_count p in
    let q : Pass = with_answers p all in
    let same : IsSameBelow p all n = same_below p all n agree ruled in
    let fallbacks : map (falls_back q) (table_ids p.table) ≡ map (falls_back p) (table_ids p.table) =
    map_within (falls_back q) (falls_back p) 0 n (λ id lt. falls_back_so p all id (kind_at p.table id) _ (agree_at p all n id (omega (arith, lt)) agree) refl) in
    ap (λ (ts : List (List ℕ)). record (rewritten q) { strings = p.table.strings ++ flat_map with_zero_byte ts }) same.texts
    ∙ ap (λ (rs : List Record). record (rewritten p) { records = rs ++ added_below q n; fallbacks = map (falls_back q) (table_ids p.table) ++ no_fallbacks (added_below q n) }) same.ruled
    ∙ ap (λ (rs : List Record). record (rewritten p) { records = ruled_below p n ++ rs; fallbacks = map (falls_back q) (table_ids p.table) ++ no_fallbacks rs }) same.added
    ∙ ap (λ (fs : List (Option Fallback)). record (rewritten p) { fallbacks = fs ++ no_fallbacks (added_below p n) }) fallbacks

-- a rewrite that succeeds makes the same table under the other answers
pub rewritten_alike : (policy : FillPolicy) (old new : Table) (ids : Option KsymsIds) (layout : Layout) (answers all : List FeatureAnswer) → Rewritten policy old ids layout answers new → features_of answers ≡ Asked (pass_of policy old ids layout answers) → AgreeWith answers all
    → Rewritten policy old ids layout all new
rewritten_alike policy old new ids layout answers all is asked agree =
    let p : Pass = pass_of policy old ids layout answers in
    let agree_all : Agree p all (old_count p) = agree_by p all (old_count p) asked agree in
    record { step = is.step; ruled = ruled_so p all (old_count p) agree_all is.ruled; table = is.table ∙ sym (rewritten_so p all agree_all is.ruled) }

-- a rewrite that is refused is refused for the same reason under the other answers
pub refused_alike : (policy : FillPolicy) (old : Table) (ids : Option KsymsIds) (layout : Layout) (answers all : List FeatureAnswer) (refusal : Refusal)
    → ((step_fault old ids ≡ Some refusal) × (answers ≡ []))
    ⊎ ((step_fault old ids ≡ None) × ((id : ℕ) × FaultsAt (pass_of policy old ids layout answers) id refusal × (features_of answers ≡ each_once (asks_below (pass_of policy old ids layout answers) (suc id)))))
    → AgreeWith answers all → IsRefused policy old ids layout all refusal
refused_alike policy old ids layout answers all refusal (inl step) agree = inl step.0
refused_alike policy old ids layout answers all refusal (inr pass) agree =
    let p : Pass = pass_of policy old ids layout answers in
    let id : ℕ = pass.1.0 in
    let at : FaultsAt p id refusal = pass.1.1 in
    let agree_at_id : Agree p all (suc id) = agree_by p all (suc id) pass.1.2 agree in
    inr (pass.0, (id, (at.0, ruled_so p all id (agree_up_to p all (suc id) id (omega arith) agree_at_id) at.1, same_refused p all id agree_at_id at.1 ∙ at.2)))

-- ---- one outcome

-- a rewrite that succeeds is not refused
pub rewritten_not_refused : (policy : FillPolicy) (old new : Table) (ids : Option KsymsIds) (layout : Layout) (answers : List FeatureAnswer) (refusal : Refusal) → Rewritten policy old ids layout answers new → IsRefused policy old ids layout answers refusal → ⊥
rewritten_not_refused policy old new ids layout answers refusal is (inl step) = none-some refusal (sym is.step ∙ step)
rewritten_not_refused policy old new ids layout answers refusal is (inr pass) = none-some refusal (sym (is.ruled pass.1.0 pass.1.1.0) ∙ pass.1.1.2)
