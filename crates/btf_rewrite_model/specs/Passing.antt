-- The progress of a pass: the features that it has asked for, and what it has made.
use Rattle.std.specs.Prelude.{◌≡◌, ℕ, ◌<◌, Bool, true, false, List, map, Option, Some, None}
use Rattle.std.specs.List.{flat_map}
use Rattle.btf_model.specs.Record as kinds
use Rattle.btf_model.specs.Record.{Kind, Record}
use Rattle.btf_rewrite_model.specs.declared.feature.BtfFeature.{BtfFeature}
use Rattle.btf_rewrite_model.specs.declared.feature.FeatureAnswer.{FeatureAnswer}
use Rattle.btf_rewrite_model.specs.Pass.{Pass, asks_below, each_once, texts_below, added_below, type_len_at, is_least}
use Rattle.btf_rewrite_model.specs.Rule.{ruled_below}
use Rattle.btf_rewrite_model.specs.Rewritten.{AreRuled, with_zero_byte}

-- the features of these answers
abbrev pub features_of : List FeatureAnswer → List BtfFeature
features_of answers = map (λ (answer : FeatureAnswer). answer.feature) answers

-- the features of the answers are these, each once
abbrev pub AreAnswersTo : List BtfFeature → List FeatureAnswer → Type 0
AreAnswersTo fs answers = features_of answers ≡ each_once fs

-- When a pass comes to an id, its answers are the answers to what the lower ids ask for, and no lower id is refused.
pub record IsPassAt (p : Pass) (id : ℕ) : Type 0 where
  pub asked : AreAnswersTo (asks_below p id) p.answers
  pub ruled : AreRuled p id

-- What a pass has made when it comes to an id: the appended string bytes and records, the new records, and the length
-- of all records.
pub record HasMade (p : Pass) (id : ℕ) (strings : List ℕ) (types new : List Record) (type_len : ℕ) : Type 0 where
  pub strings_are : strings ≡ flat_map with_zero_byte (texts_below p id)
  pub types_are : types ≡ added_below p id
  pub new_are : new ≡ ruled_below p id
  pub type_len_is : type_len ≡ type_len_at p id

-- a kind whose rule appends no text and no record, and is never refused
abbrev pub is_quiet : Option Kind → Bool
is_quiet (Some kinds.Func) = false
is_quiet (Some kinds.FuncProto) = false
is_quiet (Some kinds.Enum64) = false
is_quiet (Some kinds.DataSec) = false
is_quiet k = true

-- No number below n passes the test; or the least one that passes it has made this number.
abbrev pub MadeBelow : (ℕ → Bool) → (ℕ → ℕ) → ℕ → Option ℕ → Type 0
MadeBelow test number n None = (j : ℕ) → j < n → test j ≡ false
MadeBelow test number n (Some made) = (k : ℕ) × (k < n) × (is_least test k ≡ true) × (made ≡ number k)
