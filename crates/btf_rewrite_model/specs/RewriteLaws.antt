-- The laws of the rewrite. Each is the contract of a public function of this crate.
use Rattle.std.specs.Prelude.{◌≡◌, ◌≢◌, ℕ, suc, ◌<◌, ◌≤◌, ◌+◌, ◌&&◌, Bool, true, false, if◌then◌else◌, List, [], ◌∷◌, length, map, slice_get, Option, None, Some, Ok}
use Rattle.std.specs.List.{list_any, filter}
use Rattle.btf_model.specs.Record as kinds
use Rattle.btf_model.specs.Record.{Kind, Record, kind_of}
use Rattle.btf_model.specs.Refusal.{MaximumTypeDepthReached}
use Rattle.btf_model.specs.Spelling.{HasKind}
use Rattle.btf_model.specs.Table.{Table}
use Rattle.btf_model.specs.Walk.{Finding, WalkAnswers, Elements, size_in, Resolves, HasSize}
use Rattle.btf_model.specs.Value.{Value}
use Rattle.btf_rewrite_model.specs.declared.feature.BtfFeature.TheVariants as features
use Rattle.btf_rewrite_model.specs.Feature.{same_feature, grants, needs, needs_by, is_sized_and_empty}
use Rattle.btf_rewrite_model.specs.declared.feature.BtfFeature.{BtfFeature}
use Rattle.btf_rewrite_model.specs.declared.feature.FeatureAnswer.{FeatureAnswer}
use Rattle.btf_rewrite_model.specs.declared.feature.FillPolicy.{FillPolicy}
use Rattle.btf_rewrite_model.specs.declared.feature.FillPolicy.TheVariants.{KeepSized}
use Rattle.btf_rewrite_model.specs.Made.{record_at, kind_at, enum64_fallback}
use Rattle.btf_rewrite_model.specs.Checks.{first_fault, record_len}
use Rattle.btf_rewrite_model.specs.declared.ksyms_ids.KsymsIds.{KsymsIds}
use Rattle.btf_rewrite_model.specs.Pass.{Pass, Layout, has, name_checks, asks, asks_below, Asked, texts_below, added_below, fills_unsized, gets_filler, growth_below, unsized_asks_zero, data_sec_asks}
use Rattle.btf_rewrite_model.specs.Rule.{becomes, ruled_below, new_name}
use Rattle.btf_rewrite_model.specs.Fault.{fault}
use Rattle.btf_rewrite_model.specs.Rewritten.{begun, pass_of, AreRuled, Rewritten}

-- a feature is among these
abbrev pub IsAmong : BtfFeature → List BtfFeature → Type 0
IsAmong f fs = list_any (same_feature f) fs ≡ true

-- A rewrite asks for a feature at a record only if the kernel needs the feature for this record.
abbrev pub AskedOnlyIfNeeded : Type 0
AskedOnlyIfNeeded =
    (p : Pass) (id : ℕ) (f : BtfFeature) → IsAmong f (asks p id)
    → IsAmong f (needs p.policy (record_at p.table id) (record_at p.table id))

-- exactly one of the answers is for this feature, and it is yes
abbrev pub IsGrantedOnce : List FeatureAnswer → BtfFeature → Type 0
IsGrantedOnce answers f =
    map (λ (answer : FeatureAnswer). answer.granted)
    (filter (λ (answer : FeatureAnswer). same_feature answer.feature f) answers) ≡ true ∷ []

-- Suppose that the answers are exactly the answers to what the pass asks for. Then each feature that the kernel needs
-- for a record of the new table, including appended records, was asked for once and granted.
abbrev pub GrantedFeaturesSuffice : Type 0
GrantedFeaturesSuffice =
    (policy : FillPolicy) (old new : Table) (ids : Option KsymsIds) (layout : Layout) (answers : List FeatureAnswer)
    → Rewritten policy old ids layout answers new
    → map (λ (answer : FeatureAnswer). answer.feature) answers ≡ Asked (pass_of policy old ids layout answers)
    → (id : ℕ) (r : Record) → slice_get new.records id ≡ Some r → (f : BtfFeature)
    → IsAmong f (needs policy (record_at (begun old ids) id) r) → IsGrantedOnce answers f

-- The record of an id retains its length in bytes, except for a DATASEC that gets the filler.
pub record RecordLengthsStay : Type 0 where
  pub others : (p : Pass) (id : ℕ) (k : Kind) → HasKind k (record_at p.table id) → gets_filler p id ≡ false
      → record_len (becomes p id) ≡ record_len (record_at p.table id)
  pub filled : (p : Pass) (id : ℕ) (k : Kind) → HasKind k (record_at p.table id) → gets_filler p id ≡ true
      → (record_len (record_at p.table id) ≡ 12) × (record_len (becomes p id) ≡ 24)

-- An ENUM64 that becomes a UNION leaves a fallback with its sign, and with the name and the value of each variant in
-- order.
abbrev pub Enum64KeepsItsValues : Type 0
Enum64KeepsItsValues =
    (policy : FillPolicy) (old new : Table) (ids : Option KsymsIds) (layout : Layout) (answers : List FeatureAnswer)
    → Rewritten policy old ids layout answers new
    → (id : ℕ) → id < length (begun old ids).records → kind_at (begun old ids) id ≡ Some kinds.Enum64
    → grants answers features.Enum64 ≡ false
    → (kind_at new id ≡ Some kinds.Union)
    × (slice_get new.fallbacks id ≡ Some (Some (enum64_fallback (record_at (begun old ids) id))))

-- The rewrite does not change the size of a record of this kind. A VAR, FUNC, FUNC_PROTO, DATASEC or DECL_TAG may
-- change its size, or the type that it refers to.
abbrev pub keeps_size : Option Kind → Bool
keeps_size (Some kinds.Var) = false
keeps_size (Some kinds.Func) = false
keeps_size (Some kinds.FuncProto) = false
keeps_size (Some kinds.DataSec) = false
keeps_size (Some kinds.DeclTag) = false
keeps_size k = true

-- what a walk for a size finds, if it meets only kinds that retain their size
abbrev pub FindsKept : Table → Elements → Finding Elements ℕ → Type 0
FindsKept t at found = (keeps_size (kind_at t at.type) ≡ true) × (size_in at (slice_get t.records at.type) ≡ found)

-- If such a walk gives the size of a type, the type has the same size in the new table.
abbrev pub SizesStay : Type 0
SizesStay =
    (policy : FillPolicy) (old new : Table) (ids : Option KsymsIds) (layout : Layout) (answers : List FeatureAnswer)
    → Rewritten policy old ids layout answers new
    → (id size : ℕ) → WalkAnswers (FindsKept old) (record { count = 1; type = id }) (λ _. MaximumTypeDepthReached id)
    (Ok size) → HasSize new.records id (Ok size)

-- If an id resolves to a type that is no FUNC, it resolves to the same type in the new table.
abbrev pub ResolutionsStay : Type 0
ResolutionsStay =
    (policy : FillPolicy) (old new : Table) (ids : Option KsymsIds) (layout : Layout) (answers : List FeatureAnswer)
    → Rewritten policy old ids layout answers new
    → (id end : ℕ) → Resolves old.records id (Ok end) → kind_at old end ≢ Some kinds.Func
    → Resolves new.records id (Ok end)

-- If the search for a variant's name succeeds, with a value or with none, it returns the same in the new table.
abbrev pub VariantValueStays : Type 0
VariantValueStays =
    (policy : FillPolicy) (old new : Table) (ids : Option KsymsIds) (layout : Layout) (answers : List FeatureAnswer)
    → Rewritten policy old ids layout answers new
    → (id : ℕ) (name : List ℕ) (found : Option ℕ) → Value old id name (Ok found) → Value new id name (Ok found)

-- A pass appends at most three types: the member type of the UNIONs that replace ENUM64s, and the two types of the
-- filler. The step of `.ksyms` appends at most one, so a rewrite appends at most four. No type is removed.
pub record FewTypesAreAppended : Type 0 where
  pub in_a_pass : (p : Pass) (id : ℕ) → length (added_below p id) ≤ 3
  pub in_the_step : (t : Table) (ids : Option KsymsIds) → (length t.records ≤ length (begun t ids).records)
      × (length (begun t ids).records ≤ length t.records + 1)
  pub in_a_rewrite : (policy : FillPolicy) (old new : Table) (ids : Option KsymsIds) (layout : Layout)
      (answers : List FeatureAnswer) → Rewritten policy old ids layout answers new
      → (length old.records ≤ length new.records) × (length new.records ≤ length old.records + 4)

-- the same pass under other answers
abbrev pub with_answers : Pass → List FeatureAnswer → Pass
with_answers p answers = record p { answers = answers }

-- These answers agree with the answers of the pass on all features that the ids below this one ask for.
abbrev pub Agree : Pass → List FeatureAnswer → ℕ → Type 0
Agree p answers id = (f : BtfFeature) → IsAmong f (asks_below p id) → grants answers f ≡ has p f

-- Under these other answers the ids below this one ask for the same features, append the same, and become the same.
pub record IsSameBelow (p : Pass) (answers : List FeatureAnswer) (id : ℕ) : Type 0 where
  pub asks : asks_below (with_answers p answers) id ≡ asks_below p id
  pub texts : texts_below (with_answers p answers) id ≡ texts_below p id
  pub added : added_below (with_answers p answers) id ≡ added_below p id
  pub growth : growth_below (with_answers p answers) id ≡ growth_below p id
  pub ruled : ruled_below (with_answers p answers) id ≡ ruled_below p id

-- What an id asks for, appends and becomes, and why it is refused, depends only on the answers to what this id and
-- lower ids ask for.
pub record OtherAnswersChangeNothing : Type 0 where
  pub below : (p : Pass) (answers : List FeatureAnswer) (id : ℕ) → Agree p answers id → AreRuled p id
      → IsSameBelow p answers id
  pub asked : (p : Pass) (answers : List FeatureAnswer) (id : ℕ) → Agree p answers (suc id) → AreRuled p id
      → asks (with_answers p answers) id ≡ asks p id
  pub refused : (p : Pass) (answers : List FeatureAnswer) (id : ℕ) → Agree p answers (suc id) → AreRuled p id
      → fault (with_answers p answers) id ≡ fault p id

-- A second rewrite changes nothing if these conditions hold: the first rewrite succeeds without kernel symbols
-- (`.ksyms`); the table has strings; the first rewrite leaves no DATASEC of size 0; the policy is the same; and the
-- kernel grants again what it granted.
abbrev pub SecondRewriteChangesNothing : Type 0
SecondRewriteChangesNothing =
    (policy : FillPolicy) (old new : Table) (layout : Layout) (answers again : List FeatureAnswer) → 0 < length old.strings
    → Rewritten policy old None layout answers new
    → ((id : ℕ) → kind_at new id ≡ Some kinds.DataSec → (record_at new id).third ≢ 0)
    → ((f : BtfFeature) → IsAmong f (asks_below (pass_of policy new None layout again) (length new.records))
    → grants answers f ≡ true → grants again f ≡ true)
    → Rewritten policy new None layout again new

-- Under the policy KeepSized, each definition is the same as without a policy. A DATASEC that has a size needs and asks
-- for DataSec only, and gets no filler. It retains everything but its name, if its name can be read and the new name
-- fits.
pub record SizedSectionsAreKept : Type 0 where
  pub needed : (before r : Record)
      → needs KeepSized before r ≡ needs_by (is_sized_and_empty (kind_of before.info) before) (kind_of r.info) r
  pub filled : (p : Pass) (id : ℕ) → p.policy ≡ KeepSized
      → gets_filler p id ≡ (has p features.DataSec && fills_unsized p id)
  pub asked : (p : Pass) (id : ℕ) (r : Record) → p.policy ≡ KeepSized
      → data_sec_asks p id r ≡ (if has p features.DataSec && unsized_asks_zero p id r then features.DataSec
      ∷ features.DataSecZero ∷ [] else features.DataSec ∷ [])
  pub kept : (p : Pass) (id : ℕ) → p.policy ≡ KeepSized → kind_at p.table id ≡ Some kinds.DataSec
      → (record_at p.table id).third ≢ 0 → has p features.DataSec ≡ true
      → becomes p id ≡ record (record_at p.table id) { name = new_name p id (record_at p.table id) }
  pub tested : (p : Pass) (id : ℕ) → p.policy ≡ KeepSized → kind_at p.table id ≡ Some kinds.DataSec
      → (record_at p.table id).third ≢ 0 → has p features.DataSec ≡ true
      → fault p id ≡ first_fault (name_checks p id)
