-- The settings of all the words of a rewrite.
use Rattle.std.specs.Prelude.{◌≡◌, ℕ, if◌then◌else◌, Bool, true, false, List, [], ◌∷◌, Option, Some, None}
use Rattle.std.specs.List.{AllZip, filter_map, list_any}
use Rattle.std.specs.Option.{option_or, option_to_list}
use Rattle.std.specs.Str.{bytes_eq}
use Rattle.btf_rewrite_model.specs.Feature.{same_feature}
use Rattle.btf_rewrite_model.specs.FeatureSet.{answers_of}
use Rattle.btf_rewrite_model.specs.declared.feature.BtfFeature.{BtfFeature}
use Rattle.btf_rewrite_model.specs.declared.feature.FeatureAnswer.{FeatureAnswer}
use Rattle.btf_rewrite_model.specs.declared.feature.FillPolicy.{FillPolicy}
use Rattle.btf_rewrite_model.specs.declared.feature.FillPolicy.TheVariants.{KeepSized, FillSized}
use Rattle.btf_rewrite_model.specs.declared.ksyms_ids.KsymsIds.{KsymsIds}
use Rattle.btf_rewrite_model.specs.Pass.{Layout}
use Rattle.btf_cli.specs.Setting.{Setting, Grants, FillsSized, SectionSize, SymbolOffset, KsymsId, PlaceholderId, Sets}

-- each word makes the setting at its index
abbrev pub SetAll : List (List ℕ) → List Setting → Type 0
SetAll words settings = AllZip Sets words settings

-- ---- the kernel

-- whether the setting grants this feature
abbrev pub is_grant : BtfFeature → Setting → Bool
is_grant f (Grants feature) = same_feature feature f
is_grant f setting = false

-- the kernel's answers for all features: it has the features that settings grant
abbrev pub kernel_set : List Setting → List FeatureAnswer
kernel_set settings = answers_of (λ f. list_any (is_grant f) settings)

-- ---- the policy

-- whether the setting has sized DATASECs filled
abbrev pub is_fill : Setting → Bool
is_fill FillsSized = true
is_fill setting = false

-- the policy: sized DATASECs are filled if a setting has them filled
abbrev pub policy_set : List Setting → FillPolicy
policy_set settings = if list_any is_fill settings then FillSized else KeepSized

-- ---- the layout

-- the size that a setting gives to the section of this name
abbrev pub size_set : List ℕ → Setting → Option ℕ
size_set name (SectionSize section size) = if bytes_eq section name then Some size else None
size_set name setting = None

-- the offset that a setting gives to the symbol of this name
abbrev pub offset_set : List ℕ → Setting → Option ℕ
offset_set name (SymbolOffset symbol offset) = if bytes_eq symbol name then Some offset else None
offset_set name setting = None

-- the number of the last setting that gives one
abbrev pub last_set : (Setting → Option ℕ) → List Setting → Option ℕ
last_set number [] = None
last_set number (setting ∷ settings) = option_or (last_set number settings) (number setting)

-- the layout: the sizes of sections and the offsets of symbols that the settings give
abbrev pub layout_set : List Setting → Layout
layout_set settings = record {
  sections = λ name. last_set (size_set name) settings;
  symbols = λ name. last_set (offset_set name) settings;
}

-- ---- the ids of `.ksyms`

-- the id of `.ksyms`, if the setting gives it
abbrev pub ksyms_set : Setting → Option ℕ
ksyms_set (KsymsId id) = Some id
ksyms_set setting = None

-- the id of the placeholder, if the setting gives it
abbrev pub placeholder_set : Setting → Option ℕ
placeholder_set (PlaceholderId id) = Some id
placeholder_set setting = None

-- One setting gives the id of `.ksyms`, and at most one the id of the placeholder; or no setting gives either.
abbrev pub SetIds : List Setting → Option KsymsIds → Type 0
SetIds settings (Some ids) =
    (filter_map ksyms_set settings ≡ ids.datasec_id ∷ [])
    × (filter_map placeholder_set settings ≡ option_to_list ids.placeholder_id)
SetIds settings None = (filter_map ksyms_set settings ≡ []) × (filter_map placeholder_set settings ≡ [])

-- These are the sizes of sections that the settings of the words give.
abbrev pub SetSizes : List (List ℕ) → (List ℕ → Option ℕ) → Type 0
SetSizes words sizes =
    (settings : List Setting) → SetAll words settings → (name : List ℕ) → sizes name ≡ last_set (size_set name) settings

-- These are the offsets of symbols that the settings of the words give.
abbrev pub SetOffsets : List (List ℕ) → (List ℕ → Option ℕ) → Type 0
SetOffsets words offsets =
    (settings : List Setting) → SetAll words settings
    → (name : List ℕ) → offsets name ≡ last_set (offset_set name) settings
