-- A type that a pass comes to, other than a DATASEC.
use Rattle.btf_records.specs.declared.btf_type.BtfType.TheVariants as types
use Rattle.btf_rewrite_model.specs.Passing.{AreAnswersTo, is_quiet}
use Rattle.btf_table.specs.PassStep.{AsksUpTo, Given, pass_on, Comes, Steps, made_of, FollowsRule, StepsInPass}
use Rattle.btf_rewrite_model.specs.declared.feature.BtfFeature.{BtfFeature}
use Rattle.btf_rewrite_model.specs.declared.feature.FeatureAnswer.{FeatureAnswer}
use Rattle.btf_table.specs.Btf.{IsType}
use Rattle.std.specs.Prelude.{List, ℕ, Result, Bool, true, ◌≡◌, if◌then◌else◌, Option}
use Rattle.btf_model.specs.Record.{Record, kind_of}
use Rattle.btf_model.specs.Table.{Table}
use Rattle.btf_rewrite_model.specs.Pass.{asks_below, Pass, has}
use Rattle.btf_plain.specs.declared.error.BtfError.{BtfError}
use Rattle.btf_table.specs.declared.sanitize.made.Made.{Made}
use Rattle.btf_plain.specs.Error.{MeetsOrNoMemory}
use Rattle.btf_table.specs.declared.sanitize.outcome.Outcome.{Outcome}
use Rattle.btf_records.specs.declared.btf_type.BtfType.{BtfType}
use Rattle.btf_table.specs.SoleFeature.{IsGranted, asks_one, feature_of}
use Rattle.btf_records.specs.BtfType.{record_of}
use Rattle.btf_rewrite_model.specs.Rule.{becomes_by}
use Rattle.btf_table.specs.InPlace.{denied_type}
use Rattle.btf_rewrite_model.specs.declared.feature.BtfFeature.TheVariants as features
use Rattle.std.specs.Option.{unwrap_or}

-- When a pass over this table comes to this FUNC, the first features that it asks for are answered.
abbrev pub AsksFunc : Table → Record → List FeatureAnswer → List FeatureAnswer → Type 0
AsksFunc btf func first second =
    (given : Given) (id : ℕ) → IsType btf id (types.Func func)
    → AreAnswersTo (asks_below (pass_on btf given first) id) first → (left : List BtfFeature)
    × AsksUpTo (pass_on btf given first) id second left

-- When a pass over this table comes to this FUNC, all that it asks for is answered, and the result is what its rule
-- gives, or allocation fails.
abbrev pub StepsFunc : Table → Record → List FeatureAnswer → List FeatureAnswer → Result Outcome BtfError → Type 0
StepsFunc btf func first second result =
    (given : Given) (id : ℕ) (made : Made) → Comes btf given id (types.Func func) first second made
    → MeetsOrNoMemory (λ o. made_of o (types.Func func)) result
    (Steps (pass_on btf given first) id second (types.Func func) made made)

-- The result is what the rule of a type gives that asks for one feature or none.
abbrev pub RewritesBy : Made → Made → Table → BtfType → Bool → Result Outcome BtfError → Type 0
RewritesBy old_made new_made btf btf_type granted result =
    asks_one (kind_of (record_of btf_type).info) ≡ true
    → FollowsRule btf btf_type (λ p. IsGranted p (feature_of (record_of btf_type)) granted) old_made new_made
    (λ outcome. made_of outcome btf_type) result

-- The result says whether a type becomes what `deny` makes of it, where the kernel has its feature or lacks it.
abbrev pub ChangesInPlace : BtfType → Bool → Bool → Type 0
ChangesInPlace btf_type granted result =
    (p : Pass) (lower : List Record) (id : ℕ) → IsGranted p (feature_of (record_of btf_type)) granted
    → is_quiet (kind_of (record_of btf_type).info) ≡ true
    → record_of (if result then denied_type btf_type else btf_type) ≡ becomes_by p lower id
    (kind_of (record_of btf_type).info) (record_of btf_type)

-- The result is what the rule of a FUNC_PROTO gives on a kernel that has FUNC or lacks it.
abbrev pub RewritesProto : Made → Made → Table → Record → Bool → Result (Option BtfType) BtfError → Type 0
RewritesProto old_made new_made btf proto granted result =
    FollowsRule btf (types.FuncProto proto) (λ p. has p features.Func ≡ granted) old_made new_made
    (λ new. unwrap_or new (types.FuncProto proto)) result

-- When a pass with these arguments comes to this type, all that it asks for is answered, and the result is what its
-- rule gives, or allocation fails.
abbrev pub StepsType : Made → Made → Table → BtfType → Given → List FeatureAnswer → List FeatureAnswer → Result
    Outcome BtfError → Type 0
StepsType old_made new_made btf btf_type given first second result =
    StepsInPass btf given btf_type first second old_made new_made (λ o. made_of o btf_type) result
