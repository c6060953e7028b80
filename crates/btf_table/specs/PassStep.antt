-- What the data structures of a pass represent.
use Rattle.std.specs.Prelude.{◌≡◌, ℕ, suc, ◌+◌, ◌<◌, if◌then◌else◌, List, [], ◌∷◌, ◌++◌, length, map, take, slice_get, Option, Some, None, Result, Ok, Err}
use Rattle.std.specs.List.{flat_map, sum_by, range_with_len}
use Rattle.btf_model.specs.Record.{Kind, Record, kind_of}
use Rattle.btf_model.specs.Refusal.{Refusal}
use Rattle.btf_model.specs.Table.{Table, no_fallbacks}
use Rattle.btf_rewrite_model.specs.declared.feature.BtfFeature.{BtfFeature}
use Rattle.btf_rewrite_model.specs.declared.feature.FeatureAnswer.{FeatureAnswer}
use Rattle.btf_rewrite_model.specs.Checks.{record_len}
use Rattle.btf_rewrite_model.specs.Pass.{Pass, Layout, asks, asks_below, Asked, texts, added, free_id, offset_at, type_len_at, gets_filler, growth_below, wants_member_type}
use Rattle.btf_rewrite_model.specs.Rule.{becomes, ruled_below, falls_back}
use Rattle.btf_rewrite_model.specs.Fault.{fault}
use Rattle.btf_rewrite_model.specs.Rewritten.{with_zero_byte, AreRuled, rewritten}
use Rattle.btf_rewrite_model.specs.Passing.{AreAnswersTo, IsPassAt, HasMade}
use Rattle.btf_rewrite_model.specs.Passing.{MadeBelow}
use Rattle.btf_plain.specs.Error.{MeetsOrNoMemory}
use Rattle.btf_plain.specs.declared.error.BtfError.{BtfError}
use Rattle.btf_records.specs.BtfType.{record_of, fallback_of}
use Rattle.btf_records.specs.declared.btf_type.BtfType.{BtfType}
use Rattle.btf_table.specs.Btf.{IsType}
use Rattle.btf_table.specs.Adding.{next_string_offset, next_id, HasRoom}
use Rattle.btf_table.specs.InPlace.{denied_type}
use Rattle.btf_table.specs.Changes.{put_all, each, AreInside, AreChangesOf, changed}
use Rattle.btf_table.specs.Layout.{layout_of}
use Rattle.btf_table.specs.Denied.{AreTypeIds, deny_all, with_denied}
use Rattle.btf_rewrite_model.specs.declared.feature.FillPolicy.{FillPolicy}
use Rattle.btf_table.specs.declared.sanitize.made.Made.{Made}
use Rattle.btf_table.specs.declared.sanitize.outcome.Outcome.{Outcome}
use Rattle.btf_table.specs.declared.sanitize.outcome.Outcome.TheVariants.{Same, Denied, Other}
use Rattle.btf_table.specs.declared.sanitize.pass.PassChanges.{PassChanges}
use Rattle.btf_table.specs.declared.sanitize.request.Request.{Request}

-- the arguments of a pass besides its table
pub record Given : Type 0 where
  pub layout : Layout
  pub policy : FillPolicy

-- a layout and a policy
abbrev pub given_under : FillPolicy → Layout → Given
given_under policy layout = record { layout = layout; policy = policy }

-- what a request gives a pass
abbrev pub given_by : {A B G H : Type 0} → Request A B G H → Given
given_by request = given_under request.policy (layout_of request.sections.now request.symbols.now)

-- the pass over a table, with these answers
abbrev pub pass_on : Table → Given → List FeatureAnswer → Pass
pass_on t given answers = record { table = t; layout = given.layout; policy = given.policy; answers = answers }

-- the outcome of a rule that may replace a type by another
abbrev pub rule_outcome : Option BtfType → Outcome
rule_outcome (Some new) = Other new
rule_outcome None = Same

-- what a type becomes
abbrev pub made_of : Outcome → BtfType → BtfType
made_of Same b = b
made_of Denied b = denied_type b
made_of (Other new) b = new

-- the type of an id before types are denied
abbrev pub placed_of : Outcome → BtfType → BtfType
placed_of (Other new) b = new
placed_of o b = b

-- the replaced types, with one more if this outcome replaces a type
abbrev pub kept_changes : List (ℕ × BtfType) → ℕ → Outcome → List (ℕ × BtfType)
kept_changes cs id (Other new) = cs ++ (id, new) ∷ []
kept_changes cs id o = cs

-- the ids of denied types, with one more if this outcome denies a type
abbrev pub kept_ids : List ℕ → ℕ → Outcome → List ℕ
kept_ids ids id Denied = ids ++ id ∷ []
kept_ids ids id o = ids

-- The state when a pass comes to an id: where its texts and types are appended, and what lower ids have made.
pub record IsHere (p : Pass) (id : ℕ) (m : Made) : Type 0 where
  pub offset : offset_at p id ≡ next_string_offset p.table m.changes
  pub free : free_id p id ≡ next_id p.table m.changes
  pub type_len : type_len_at p id ≡ m.changes.type_len
  pub names : m.names.items ≡ map (λ (r : Record). r.name) (ruled_below p id)
  pub count : length (ruled_below p id) ≡ id
  pub member_type : MadeBelow (wants_member_type p) (free_id p) id m.member_type
  pub filler : MadeBelow (gets_filler p) (λ k. free_id p k + 1) id m.filler
  pub room : HasRoom p.table m.changes

-- A pass over this table comes to an id that has this type. The first answers are the answers to all that lower ids ask
-- for. The second answers extend them, and m is what lower ids have made under the second answers.
pub record Comes (t : Table) (given : Given) (id : ℕ) (b : BtfType) (first second : List FeatureAnswer) (m : Made) : Type 0 where
  pub there : IsType t id b
  pub answered : AreAnswersTo (asks_below (pass_on t given first) id) first
  pub here : IsHere (pass_on t given second) id m

-- the bytes by which a DATASEC grows
abbrev pub growth : Pass → ℕ → ℕ
growth p id = if gets_filler p id then 12 else 0

-- The texts and records of an id are appended. Nothing else changes, except for the ids of the member type and the
-- filler.
pub record IsGrown (p : Pass) (id : ℕ) (old new : Made) : Type 0 where
  pub strings : new.changes.new_strings.items ≡ old.changes.new_strings.items ++ flat_map with_zero_byte (texts p id)
  pub records : map record_of new.changes.new_types.items ≡ map record_of old.changes.new_types.items ++ added p id
  pub fallbacks : map fallback_of new.changes.new_types.items ≡ map fallback_of old.changes.new_types.items
      ++ no_fallbacks (added p id)
  pub types : new.changes.types ≡ old.changes.types
  pub type_len : new.changes.type_len ≡ old.changes.type_len + sum_by record_len (added p id) + growth p id
  pub names : new.names ≡ old.names
  pub member_type : MadeBelow (wants_member_type p) (free_id p) (suc id) new.member_type
  pub filler : MadeBelow (gets_filler p) (λ k. free_id p k + 1) (suc id) new.filler
  pub room : HasRoom p.table new.changes

-- The rule of an id succeeds, and gives the new type.
pub record IsRuled (p : Pass) (id : ℕ) (old : BtfType) (before after : Made) (new : BtfType) : Type 0 where
  pub passed : fault p id ≡ None
  pub record_is : record_of new ≡ becomes p id
  pub fallback_is : fallback_of new ≡ falls_back p id
  pub len : record_len (record_of new) ≡ record_len (record_of old) + growth p id
  pub grown : IsGrown p id before after

-- what the rule of an id returns: the new type, or the refusal
abbrev pub Rules : Pass → ℕ → BtfType → Made → Made → Result BtfType Refusal → Type 0
Rules p id old before after (Ok new) = IsRuled p id old before after new
Rules p id old before after (Err refusal) = fault p id ≡ Some refusal

-- Whenever a pass over this table comes to an id with this type, and its kernel satisfies `OnKernel`, the rule of the
-- id returns this result, or allocation fails. `type_for` gives the type that the result's value represents.
abbrev pub FollowsRule : {T : Type 0} → Table → BtfType → (Pass → Type 0) → Made → Made → (T → BtfType)
    → Result T BtfError → Type 0
FollowsRule t b OnKernel before after type_for result =
    (given : Given) (answers : List FeatureAnswer) (id : ℕ) → IsType t id b
    → IsHere (pass_on t given answers) id before → OnKernel (pass_on t given answers)
    → MeetsOrNoMemory type_for result (Rules (pass_on t given answers) id b before after)

-- The answers are the answers that a pass had, followed by the answers to these features of an id.
pub record HasAsked (p : Pass) (id : ℕ) (some : List BtfFeature) (answers : List FeatureAnswer) : Type 0 where
  pub more : List FeatureAnswer
  pub further : answers ≡ p.answers ++ more
  pub asked : AreAnswersTo (asks_below p id ++ some) answers

-- The first features that an id asks for are answered, and these features are left.
abbrev pub AsksUpTo : Pass → ℕ → List FeatureAnswer → List BtfFeature → Type 0
AsksUpTo p id answers left =
    (some : List BtfFeature) × HasAsked p id some answers × (asks (record p { answers = answers }) id ≡ some ++ left)

-- All that an id asks for is answered, and its rule holds under all answers.
abbrev pub Steps : Pass → ℕ → List FeatureAnswer → BtfType → Made → Made → Result BtfType Refusal → Type 0
Steps p id answers old before after result =
    AsksUpTo p id answers [] × Rules (record p { answers = answers }) id old before after result

-- When a pass with these arguments comes to an id of this type, the first features that the id asks for are answered.
abbrev pub AsksInPass : Table → Given → BtfType → List FeatureAnswer → List FeatureAnswer → Made → Type 0
AsksInPass t under b first second made =
    (given : Given) (id : ℕ) → given ≡ under → Comes t given id b first second made
    → (left : List BtfFeature) × AsksUpTo (pass_on t given first) id second left

-- Then all that the id asks for is answered, and its rule returns this result, or allocation fails. `type_for` gives the
-- type that the result's value represents.
abbrev pub StepsInPass : {T : Type 0} → Table → Given → BtfType → List FeatureAnswer → List FeatureAnswer → Made → Made
    → (T → BtfType) → Result T BtfError → Type 0
StepsInPass t under b first second before after type_for result =
    (given : Given) (id : ℕ) → given ≡ under → Comes t given id b first second before
    → MeetsOrNoMemory type_for result (Steps (pass_on t given first) id second b before after)

-- the records of the ids below this one, after types are replaced and before any is denied
abbrev pub placed_below : Pass → ℕ → Made → List Record
placed_below p id m = put_all (each record_of m.changes.types.items) (take id p.table.records)

-- What a pass has made when it comes to an id. The types of these lower ids will be denied at the end.
pub record IsMade (p : Pass) (id : ℕ) (m : Made) (ids : List ℕ) : Type 0 where
  pub has_made : HasMade p id m.changes.new_strings.items (map record_of m.changes.new_types.items)
      (deny_all ids (placed_below p id m)) m.changes.type_len
  pub fallbacks : put_all (each fallback_of m.changes.types.items) (take id p.table.fallbacks) ≡ map (falls_back p)
      (range_with_len 0 id)
  pub new_fallbacks : map fallback_of m.changes.new_types.items ≡ no_fallbacks (map record_of m.changes.new_types.items)
  pub names : m.names.items ≡ map (λ (r : Record). r.name) (ruled_below p id)
  pub inside : AreInside id m.changes.types.items
  pub denied : AreTypeIds id ids
  pub kinds : (j : ℕ) (r : Record) → slice_get (placed_below p id m) j ≡ Some r → (k : Kind) × (kind_of r.info ≡ Some k)
  pub len : sum_by record_len (placed_below p id m) ≡ sum_by record_len (take id p.table.records) + growth_below p id
  pub member_type : MadeBelow (wants_member_type p) (free_id p) id m.member_type
  pub filler : MadeBelow (gets_filler p) (λ k. free_id p k + 1) id m.filler
  pub room : HasRoom p.table m.changes

-- A whole pass: if the changes are applied and the types of these ids are then denied, the table is the rewritten one.
-- Or the pass is refused at an id, and all that this id and lower ids ask for is answered.
abbrev pub Passes : Pass → Result PassChanges Refusal → Type 0
Passes p (Ok c) =
    IsPassAt p (length p.table.records) × AreChangesOf p.table c.changes × AreTypeIds (length p.table.records) c.denied.items
    × (with_denied c.denied.items (changed p.table c.changes) ≡ rewritten p)
Passes p (Err refusal) =
    (id : ℕ) × (id < length p.table.records) × AreRuled p id × (fault p id ≡ Some refusal)
    × AreAnswersTo (asks_below p (suc id)) p.answers

-- The answers are to the first features that a pass asks for, in order.
abbrev pub BeginsAsked : Pass → Type 0
BeginsAsked p = (left : List BtfFeature) × (Asked p ≡ map (λ (answer : FeatureAnswer). answer.feature) p.answers ++ left)
