-- A request for a rewrite: its words and their settings.
use Rattle.std.specs.Prelude.{◌≡◌, if◌then◌else◌, ℕ, Bool, List, Option, String, string_bytes}
use Rattle.std.specs.List.{list_any}
use Rattle.std.specs.Str.{bytes_eq}
use Rattle.std.specs.declared.alloc.Global.{Global}
use Rattle.btf_rewrite_model.specs.declared.ksyms_ids.KsymsIds.{KsymsIds}
use Rattle.btf_rewrite_model.specs.declared.feature.BtfFeature.{BtfFeature}
use Rattle.btf_rewrite_model.specs.declared.feature.FillPolicy.{FillPolicy}
use Rattle.btf_rewrite_model.specs.declared.feature.FillPolicy.TheVariants.{KeepSized, FillSized}
use Rattle.btf_rewrite_model.specs.FeatureSet.{feature_name}
use Rattle.btf_cli.specs.Setting.{Setting, fill_word, word_texts}
use Rattle.btf_cli.specs.Settings.{SetAll, SetIds}
use Rattle.btf_cli.specs.declared.request.Request.{Request}

-- the words of a request
abbrev pub request_words : Request → List (List ℕ)
request_words request = word_texts request.words.now

-- the ids of `.ksyms` in a request
abbrev pub request_ids : Request → Option KsymsIds
request_ids request = request.ksyms

-- whether a request contains this word
abbrev pub has_word : Request → List ℕ → Bool
has_word request text = list_any (λ (word : String Global). bytes_eq (string_bytes word) text) request.words.now

-- whether a request contains the word of this feature
abbrev pub asks_feature : Request → BtfFeature → Bool
asks_feature request f = has_word request (feature_name f)

-- the policy of a request: sized DATASECs are filled if the request contains the word for it
abbrev pub policy_named : Request → FillPolicy
policy_named request = if has_word request fill_word then FillSized else KeepSized

-- These are the settings of a request's words, and its ids are among them.
pub record AreSet (request : Request) (settings : List Setting) : Type 0 where
  pub all : SetAll (request_words request) settings
  pub ids : SetIds settings (request_ids request)

-- The words are this request.
abbrev pub Requests : List (List ℕ) → Request → Type 0
Requests words request = (request_words request ≡ words) × ((settings : List Setting) × AreSet request settings)
