-- The feature that a type asks for, if it asks for at most one.
use Rattle.std.specs.Prelude.{◌≡◌, if◌then◌else◌, Bool, true, false, Option, Some, None, List, [], ℕ}
use Rattle.btf_model.specs.Record as kinds
use Rattle.btf_model.specs.Record.{Kind, Record, kind_of}
use Rattle.btf_rewrite_model.specs.declared.feature.BtfFeature.TheVariants as features
use Rattle.btf_rewrite_model.specs.Feature.{is_signed}
use Rattle.btf_rewrite_model.specs.declared.feature.BtfFeature.{BtfFeature}
use Rattle.btf_rewrite_model.specs.Pass.{Pass, has, asks_below}
use Rattle.btf_rewrite_model.specs.Passing.{AreAnswersTo}
use Rattle.btf_table.specs.PassStep.{AsksUpTo, Given, pass_on}
use Rattle.btf_records.specs.declared.btf_type.BtfType.{BtfType}
use Rattle.btf_rewrite_model.specs.declared.feature.FeatureAnswer.{FeatureAnswer}
use Rattle.btf_table.specs.Btf.{IsType}
use Rattle.btf_model.specs.Table.{Table}
use Rattle.btf_records.specs.BtfType.{record_of}

-- the feature that a record of this kind asks for, if it asks for exactly one
abbrev pub sole_feature : Option Kind → Record → Option BtfFeature
sole_feature (Some kinds.Var) r = Some features.DataSec
sole_feature (Some kinds.Float) r = Some features.Float
sole_feature (Some kinds.DeclTag) r = Some features.DeclTag
sole_feature (Some kinds.TypeTag) r = Some features.TypeTag
sole_feature (Some kinds.FuncProto) r = Some features.Func
sole_feature (Some kinds.Enum64) r = Some features.Enum64
sole_feature (Some kinds.Enum) r = if is_signed r then Some features.Enum64 else None
sole_feature k r = None

-- the feature that a record asks for
abbrev pub feature_of : Record → Option BtfFeature
feature_of r = sole_feature (kind_of r.info) r

-- a kind that asks for one feature at most
abbrev pub asks_one : Option Kind → Bool
asks_one (Some kinds.Func) = false
asks_one (Some kinds.DataSec) = false
asks_one k = true

-- whether the kernel has this feature; true if there is none
abbrev pub IsGranted : Pass → Option BtfFeature → Bool → Type 0
IsGranted p (Some f) granted = has p f ≡ granted
IsGranted p None granted = granted ≡ true

-- When a pass over any table comes to this type, the one feature that it asks for is answered.
abbrev pub AsksSole : BtfType → List FeatureAnswer → List FeatureAnswer → Type 0
AsksSole btf_type first second =
    (t : Table) (given : Given) (id : ℕ) → IsType t id btf_type
    → asks_one (kind_of (record_of btf_type).info) ≡ true
    → AreAnswersTo (asks_below (pass_on t given first) id) first → AsksUpTo (pass_on t given first) id second []

-- When a pass over any table comes to this type, the result says whether the kernel has the feature.
abbrev pub GrantsSole : BtfType → List FeatureAnswer → List FeatureAnswer → Bool → Type 0
GrantsSole btf_type first second result =
    (t : Table) (given : Given) (id : ℕ) → AreAnswersTo (asks_below (pass_on t given first) id) first
    → IsGranted (pass_on t given second) (feature_of (record_of btf_type)) result
