-- The features of a kernel's BTF that a rewrite asks for, and the features that a record needs. Source: aya-obj's
-- `BtfFeatures`, and the kernel's BTF documentation for the kinds that each feature includes. Two things are this
-- project's profile: when a rewrite asks for DataSecZero, and the policy by which a caller can have a DATASEC filled
-- that has a size and no entries.
use Rattle.std.specs.Prelude.{ℕ, ◌==◌, ◌&&◌, not, Bool, true, false, if◌then◌else◌, List, [], ◌∷◌, Option, Some, None}
use Rattle.btf_model.specs.Record as kinds
use Rattle.btf_model.specs.Record.{Kind, Record, kind_of, vlen, kind_flag}
use Rattle.btf_rewrite_model.specs.declared.feature.BtfFeature.{BtfFeature}
use Rattle.btf_rewrite_model.specs.declared.feature.BtfFeature.TheVariants.{Func, FuncGlobal, DataSec, DataSecZero, Float, DeclTag, TypeTag, Enum64}
use Rattle.btf_rewrite_model.specs.declared.feature.FeatureAnswer.{FeatureAnswer}
use Rattle.btf_rewrite_model.specs.declared.feature.FillPolicy.{FillPolicy}
use Rattle.btf_rewrite_model.specs.declared.feature.FillPolicy.TheVariants.{KeepSized, FillSized}

-- the number of a feature among the eight
abbrev pub feature_number : BtfFeature → ℕ
feature_number Func = 0
feature_number FuncGlobal = 1
feature_number DataSec = 2
feature_number DataSecZero = 3
feature_number Float = 4
feature_number DeclTag = 5
feature_number TypeTag = 6
feature_number Enum64 = 7

-- the two features are the same
abbrev pub same_feature : BtfFeature → BtfFeature → Bool
same_feature f g = feature_number f == feature_number g

-- The answers grant a feature if the first answer for this feature is yes. A feature without an answer is not granted.
abbrev pub grants : List FeatureAnswer → BtfFeature → Bool
grants [] f = false
grants (answer ∷ answers) f = if same_feature answer.feature f then answer.granted else grants answers f

-- the answer to a feature: the first answer for this feature
abbrev pub answer_to : List FeatureAnswer → BtfFeature → Option Bool
answer_to [] f = None
answer_to (answer ∷ answers) f = if same_feature answer.feature f then Some answer.granted else answer_to answers f

-- the policy fills a DATASEC that has a size and no entries
abbrev pub fills_sized : FillPolicy → Bool
fills_sized KeepSized = false
fills_sized FillSized = true

-- the linkage of a FUNC, by its vlen: Static is 0, Global is 1
abbrev pub is_global : Record → Bool
is_global r = vlen r.info == 1

-- the sign of an ENUM or ENUM64
abbrev pub is_signed : Record → Bool
is_signed r = kind_flag r.info == 1

-- a DATASEC that has no entries
abbrev pub has_no_entries : Record → Bool
has_no_entries r = vlen r.info == 0

-- The features that a kernel must have to accept a record of this kind. A DATASEC without entries also needs
-- DataSecZero, unless it is exempt.
abbrev pub needs_by : Bool → Option Kind → Record → List BtfFeature
needs_by is_exempt (Some kinds.Func) r = if is_global r then Func ∷ FuncGlobal ∷ [] else Func ∷ []
needs_by is_exempt (Some kinds.FuncProto) r = Func ∷ []
needs_by is_exempt (Some kinds.Var) r = DataSec ∷ []
needs_by is_exempt (Some kinds.DataSec) r =
    if has_no_entries r && not is_exempt then DataSec ∷ DataSecZero ∷ [] else DataSec ∷ []
needs_by is_exempt (Some kinds.Float) r = Float ∷ []
needs_by is_exempt (Some kinds.DeclTag) r = DeclTag ∷ []
needs_by is_exempt (Some kinds.TypeTag) r = TypeTag ∷ []
needs_by is_exempt (Some kinds.Enum64) r = Enum64 ∷ []
needs_by is_exempt (Some kinds.Enum) r = if is_signed r then Enum64 ∷ [] else []
needs_by is_exempt k r = []

-- a DATASEC that has a size and no entries
abbrev pub is_sized_and_empty : Option Kind → Record → Bool
is_sized_and_empty (Some kinds.DataSec) r = has_no_entries r && not (r.third == 0)
is_sized_and_empty k r = false

-- The features that a record needs. `before` is the record that its id had before the pass: if it was a DATASEC with a
-- size and no entries, and the policy leaves such a DATASEC as it is, then the record is exempt from DataSecZero.
abbrev pub needs : FillPolicy → Record → Record → List BtfFeature
needs policy before r = needs_by (not (fills_sized policy) && is_sized_and_empty (kind_of before.info) before) (kind_of r.info) r
