-- The names of the eight features, their bits, and the answers of a kernel that has some of them.
use Rattle.std.specs.Prelude.{ℕ, ◌/◌, ◌%◌, ◌^◌, ◌==◌, Bool, List, [], ◌∷◌, map, codes}
use Rattle.btf_rewrite_model.specs.Feature.{feature_number}
use Rattle.btf_rewrite_model.specs.declared.feature.BtfFeature.{BtfFeature}
use Rattle.btf_rewrite_model.specs.declared.feature.BtfFeature.TheVariants.{Func, FuncGlobal, DataSec, DataSecZero, Float, DeclTag, TypeTag, Enum64}
use Rattle.btf_rewrite_model.specs.declared.feature.FeatureAnswer.{FeatureAnswer}

-- the name of a feature
abbrev pub feature_name : BtfFeature → List ℕ
feature_name Func = codes "Func"
feature_name FuncGlobal = codes "FuncGlobal"
feature_name DataSec = codes "DataSec"
feature_name DataSecZero = codes "DataSecZero"
feature_name Float = codes "Float"
feature_name DeclTag = codes "DeclTag"
feature_name TypeTag = codes "TypeTag"
feature_name Enum64 = codes "Enum64"

-- the eight features, by their numbers
abbrev pub all_features : List BtfFeature
all_features = Func ∷ FuncGlobal ∷ DataSec ∷ DataSecZero ∷ Float ∷ DeclTag ∷ TypeTag ∷ Enum64 ∷ []

-- The bit of a feature is set.
abbrev pub has_bit : ℕ → BtfFeature → Bool
has_bit bits f = bits / 2 ^ feature_number f % 2 == 1

-- the answers of a kernel with these features
abbrev pub answers_of : (BtfFeature → Bool) → List FeatureAnswer
answers_of has = map (λ f. record { feature = f; granted = has f }) all_features
