-- The setting of a word is unique.
use Rattle.std.proofs.Common.{◌≡◌, ℕ, List, [], ◌∷◌, drop, Option, None, Some, refl, sym, ap, ◌∙◌}
use Rattle.std.specs.Prelude.{if◌then◌else◌, codes, nat_eq, map}
use Rattle.std.specs.List.{starts_with}
use Rattle.std.specs.Str.{bytes_eq}
use Rattle.std.specs.Str.Parse.{digits_value}
use Rattle.btf_rewrite_model.specs.declared.feature.BtfFeature.TheVariants as features
use Rattle.btf_rewrite_model.specs.declared.feature.BtfFeature.{BtfFeature}
use Rattle.btf_rewrite_model.specs.FeatureSet.{feature_name}
use Rattle.btf_cli.specs.Setting.{Setting, Grants, FillsSized, SectionSize, SymbolOffset, KsymsId, PlaceholderId, Sets, IsNamedNumber}
use Rattle.btf_rewrite_model.proofs.FeatureSet.{named, named_is}
use Rattle.btf_cli.specs.Settings.{SetAll}
use Rattle.btf_cli.proofs.NameEnds.{cut_last, cut_named}

-- the setting of a text with `=`, by its parts
abbrev named_setting : (List ℕ → ℕ → Setting) → Option (List ℕ × List ℕ) → Setting
named_setting kind (Some parts) = kind parts.0 (digits_value 10 parts.1)
named_setting kind None = kind [] 0

-- the setting of a word, if it is valid
abbrev pub setting_asked : List ℕ → Setting
setting_asked word =
    if starts_with nat_eq word (codes "section:") then named_setting SectionSize (cut_last (drop 8 word))
    else (if starts_with nat_eq word (codes "symbol:") then named_setting SymbolOffset (cut_last (drop 7 word))
    else (if starts_with nat_eq word (codes "ksyms:") then KsymsId (digits_value 10 (drop 6 word))
    else (if starts_with nat_eq word (codes "placeholder:") then PlaceholderId (digits_value 10 (drop 12 word))
    else (if bytes_eq word (codes "fill-sized") then FillsSized else Grants (named word)))))

feature_name_asked : (f : BtfFeature) → setting_asked (feature_name f) ≡ Grants (named (feature_name f))
feature_name_asked features.Func = refl
feature_name_asked features.FuncGlobal = refl
feature_name_asked features.DataSec = refl
feature_name_asked features.DataSecZero = refl
feature_name_asked features.Float = refl
feature_name_asked features.DeclTag = refl
feature_name_asked features.TypeTag = refl
feature_name_asked features.Enum64 = refl

asked_named : (kind : List ℕ → ℕ → Setting) (text name : List ℕ) (n : ℕ) → IsNamedNumber text name n → named_setting kind (cut_last text) ≡ kind name n
asked_named kind text name n named = ap (named_setting kind) (cut_named text name n named) ∙ ap (kind name) named.2.1

-- this is the setting that the word makes
pub asked_is : (word : List ℕ) (setting : Setting) → Sets word setting → setting_asked word ≡ setting
asked_is word (Grants feature) sets = ap setting_asked sets ∙ feature_name_asked feature ∙ ap (λ f. Grants f) (named_is feature)
asked_is word FillsSized sets = ap setting_asked sets
asked_is word (SectionSize name size) sets = ap setting_asked sets.1 ∙ asked_named SectionSize sets.0 name size sets.2
asked_is word (SymbolOffset name offset) sets = ap setting_asked sets.1 ∙ asked_named SymbolOffset sets.0 name offset sets.2
asked_is word (KsymsId id) sets = ap setting_asked sets.1 ∙ ap (λ n. KsymsId n) sets.2.1
asked_is word (PlaceholderId id) sets = ap setting_asked sets.1 ∙ ap (λ n. PlaceholderId n) sets.2.1

-- so the settings of words are unique
pub all_asked : (words : List (List ℕ)) (settings : List Setting) → SetAll words settings → settings ≡ map setting_asked words
all_asked [] [] all = refl
all_asked [] (setting ∷ settings) all = absurd all
all_asked (word ∷ words) [] all = absurd all
all_asked (word ∷ words) (setting ∷ settings) all = ap (λ s. s ∷ settings) (sym (asked_is word setting all.0)) ∙ ap (λ ss. setting_asked word ∷ ss) (all_asked words settings all.1)

pub settings_once : (words : List (List ℕ)) (settings other : List Setting) → SetAll words settings → SetAll words other → settings ≡ other
settings_once words settings other all all_other = all_asked words settings all ∙ sym (all_asked words other all_other)
