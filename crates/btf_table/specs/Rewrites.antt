-- What a rewrite returns.
use Rattle.std.specs.Prelude.{◌≡◌, ◌≢◌, ◌≤◌, ◌+◌, ◌⊎◌, ℕ, suc, List, [], length, map, slice_get, Option, Some, None, Result, Ok, Err, String}
use Rattle.std.specs.Global.{Vec}
use Rattle.std.specs.HashMap.{HashMap}
use Rattle.btf_model.specs.Record as kinds
use Rattle.btf_model.specs.Record.{Record}
use Rattle.btf_model.specs.Refusal.{Refusal, MaximumTypeDepthReached}
use Rattle.btf_rewrite_model.specs.Made.{record_at, kind_at}
use Rattle.btf_model.specs.Walk.{WalkAnswers, Resolves, HasSize}
use Rattle.btf_model.specs.Value.{Value}
use Rattle.btf_rewrite_model.specs.RewriteLaws.{FindsKept, IsAmong, IsGrantedOnce}
use Rattle.btf_model.specs.declared.endianness.Endianness.{Endianness}
use Rattle.btf_model.specs.Table.{Table, strip}
use Rattle.btf_model.specs.Blob.{IsTable, IsRefusal, canon}
use Rattle.btf_rewrite_model.specs.Feature.{needs}
use Rattle.btf_rewrite_model.specs.declared.feature.BtfFeature.{BtfFeature}
use Rattle.btf_rewrite_model.specs.declared.feature.FeatureAnswer.{FeatureAnswer}
use Rattle.btf_rewrite_model.specs.declared.feature.FillPolicy.{FillPolicy}
use Rattle.btf_rewrite_model.specs.Pass.{Pass, Layout, asks_below, each_once, Asked}
use Rattle.btf_rewrite_model.specs.Rewritten.{begun, pass_of, step_fault, FaultsAt, Rewritten, rewritten, AreRuled, old_count}
use Rattle.btf_rewrite_model.specs.declared.ksyms_ids.KsymsIds.{KsymsIds}
use Rattle.btf_plain.specs.declared.section_index.SectionIndex.{SectionIndex}
use Rattle.btf_plain.specs.declared.error.BtfError.{BtfError}
use Rattle.btf_plain.specs.Error.{MeetsOrNoMemory}
use Rattle.arrayvec.specs.declared.array_vec.ArrayVec.{ArrayVec}
use Rattle.btf_table.specs.Layout.{layout_of}
use Rattle.btf_table.specs.PassStep.{BeginsAsked}

-- the features that were asked for
abbrev pub features_asked : List FeatureAnswer → List BtfFeature
features_asked answers = map (λ (answer : FeatureAnswer). answer.feature) answers

-- what a caller asks of a rewrite: the policy for DATASECs, the `.ksyms` of its program, and the program's layout
pub record Rewrite : Type 0 where
  pub policy : FillPolicy
  pub ksyms : Option KsymsIds
  pub layout : Layout

-- the rewrite that the arguments of a call ask for
abbrev pub rewrite_of : {Y S Z T : Type 0} → FillPolicy → Option KsymsIds → HashMap (String Y) (SectionIndex × ℕ) S
    → HashMap (String Z) ℕ T → Rewrite
rewrite_of policy ksyms sections symbols = record { policy = policy; ksyms = ksyms; layout = layout_of sections symbols }

-- its pass over a table, with these answers
abbrev pub pass_for : Rewrite → Table → List FeatureAnswer → Pass
pass_for w old answers = pass_of w.policy old w.ksyms w.layout answers

-- A rewrite is refused in the step of `.ksyms`, before it asks for anything; or at the least id that has a fault, after
-- it has asked for the features of this id and of all lower ids.
abbrev pub Refuses : Rewrite → Table → List FeatureAnswer → Refusal → Type 0
Refuses w old answers refusal =
    ((step_fault old w.ksyms ≡ Some refusal) × (answers ≡ []))
    ⊎ ((step_fault old w.ksyms ≡ None) × ((id : ℕ) × FaultsAt (pass_for w old answers) id refusal
    × (features_asked answers ≡ each_once (asks_below (pass_for w old answers) (suc id)))))

-- The table is rewritten, and the answers are to what the rewrite asks for; or the rewrite is refused.
abbrev pub Rewrites : {X : Type 0} → Rewrite → Table → List FeatureAnswer → Table → Result X Refusal → Type 0
Rewrites w old answers new (Ok x) =
    Rewritten w.policy old w.ksyms w.layout answers new × (features_asked answers ≡ Asked (pass_for w old answers))
Rewrites w old answers new (Err refusal) = Refuses w old answers refusal

-- If the bytes represent a table, it is rewritten and the result has the bytes of the new table, or its rewrite is
-- refused. If the bytes represent no table, they are refused, and the rewrite asks for nothing.
abbrev pub RewritesBytes : Rewrite → Endianness → List ℕ → List FeatureAnswer
    → Result (List ℕ × List FeatureAnswer) Refusal → Type 0
RewritesBytes w order bytes answers (Ok (written, listed)) =
    (old : Table) × (new : Table) × IsTable order bytes old × Rewritten w.policy old w.ksyms w.layout answers new
    × (features_asked answers ≡ Asked (pass_for w old answers)) × (written ≡ canon new)
    × IsTable order written (strip new)
RewritesBytes w order bytes answers (Err refusal) =
    (IsRefusal order bytes refusal × (answers ≡ []))
    ⊎ ((old : Table) × IsTable order bytes old × Refuses w old answers refusal)

-- The rewrite of a table returns its answers, or its refusal, or no memory.
abbrev pub ReturnsRewrite : Rewrite → Table → List FeatureAnswer → Table
    → Result (ArrayVec FeatureAnswer 8 (Unit {0})) BtfError → Type 0
ReturnsRewrite w old answers new result = MeetsOrNoMemory (λ a. a.items) result (Rewrites w old answers new)

-- The rewrite of the bytes of a table returns the new bytes and its answers, or the refusal, or no memory.
abbrev pub ReturnsRewrittenBytes : Rewrite → Endianness → List ℕ → List FeatureAnswer
    → Result (Vec ℕ × ArrayVec FeatureAnswer 8 (Unit {0})) BtfError → Type 0
ReturnsRewrittenBytes w order bytes answers result =
    MeetsOrNoMemory (λ r. (r.0.items, r.1.items)) result (RewritesBytes w order bytes answers)

-- A pass without the step of `.ksyms`: the rewritten table, or why the pass is refused.
abbrev pub Sanitizes : {X : Type 0} → Pass → Table → Result X Refusal → Type 0
Sanitizes p new (Ok x) = AreRuled p (old_count p) × (new ≡ rewritten p) × (features_asked p.answers ≡ Asked p)
Sanitizes p new (Err refusal) =
    (id : ℕ) × FaultsAt p id refusal × (features_asked p.answers ≡ each_once (asks_below p (suc id)))

-- Each feature that the kernel needs for the new table was asked for once and granted.
abbrev pub NeedsAreGranted : FillPolicy → Option KsymsIds → List FeatureAnswer → Table → Table → Type 0
NeedsAreGranted policy ids answers old new =
    (id : ℕ) (r : Record) → slice_get new.records id ≡ Some r → (f : BtfFeature)
    → IsAmong f (needs policy (record_at (begun old ids) id) r) → IsGrantedOnce answers f

-- The size of a type is unchanged if the walk for it meets no VAR, FUNC, FUNC_PROTO, DATASEC or DECL_TAG.
abbrev pub KeepsSizes : Table → Table → Type 0
KeepsSizes old new =
    (id size : ℕ) → WalkAnswers (FindsKept old) (record { count = 1; type = id }) (λ _. MaximumTypeDepthReached id)
    (Ok size) → HasSize new.records id (Ok size)

-- If an id resolves to a type that is no FUNC, it still resolves to the same type.
abbrev pub KeepsResolutions : Table → Table → Type 0
KeepsResolutions old new =
    (id end : ℕ) → Resolves old.records id (Ok end) → kind_at old end ≢ Some kinds.Func
    → Resolves new.records id (Ok end)

-- If the search for a variant's name succeeds, with a value or with none, its result is unchanged.
abbrev pub KeepsValues : Table → Table → Type 0
KeepsValues old new =
    (id : ℕ) (name : List ℕ) (found : Option ℕ) → Value old id name (Ok found) → Value new id name (Ok found)

-- No type is removed, and at most n are appended.
abbrev pub AppendsAtMost : ℕ → Table → Table → Type 0
AppendsAtMost n old new = (length old.records ≤ length new.records) × (length new.records ≤ length old.records + n)

-- What a rewrite leaves unchanged of types, and how many it appends.
pub record KeepsTypes (old new : Table) : Type 0 where
  -- The size of a type is unchanged if the walk for it meets no VAR, FUNC, FUNC_PROTO, DATASEC or DECL_TAG.
  pub sizes : KeepsSizes old new
  -- If an id resolves to a type that is no FUNC, it still resolves to the same type.
  pub resolutions : KeepsResolutions old new
  -- No type is removed, and at most four are appended.
  pub appended : AppendsAtMost 4 old new

-- What a rewrite leaves unchanged of a table. It does not hold for the table that the written bytes represent, because
-- bytes have no fallbacks: a UNION that replaced an ENUM64 has no values there.
pub record KeepsMeaning (old new : Table) : Type 0 where
  pub types : KeepsTypes old new
  -- The value of a variant's name in an ENUM or ENUM64 is unchanged, also if a UNION replaced the ENUM64.
  pub values : KeepsValues old new

-- There are no answers; or the bytes represent a table, and the answers are to the first features that its rewrite asks
-- for.
abbrev pub BeginsAskedOf : Rewrite → Endianness → List ℕ → List FeatureAnswer → Type 0
BeginsAskedOf w order bytes answers =
    (answers ≡ []) ⊎ ((old : Table) × IsTable order bytes old × BeginsAsked (pass_for w old answers))

-- P holds for the table that the bytes represent and the table that the written bytes represent.
abbrev pub OfTables : Endianness → List ℕ → List ℕ → (Table → Table → Type 0) → Type 0
OfTables order bytes written P = (old new : Table) → IsTable order bytes old → IsTable order written new → P old new
