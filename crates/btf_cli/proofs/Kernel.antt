-- The kernel that the words of a rewrite describe.
use Rattle.std.proofs.Common.{◌≡◌, ℕ, List, [], ◌∷◌, Bool, false, ◌||◌, String, Global, refl, sym, ap, ◌∙◌, ◌++◌}
use Rattle.std.specs.Prelude.{codes, string_bytes, if◌then◌else◌}
use Rattle.std.specs.List.{list_any}
use Rattle.std.specs.Str.{bytes_eq}
use Rattle.btf_rewrite_model.specs.declared.feature.BtfFeature.TheVariants as features
use Rattle.btf_rewrite_model.specs.declared.feature.BtfFeature.{BtfFeature}
use Rattle.btf_rewrite_model.specs.declared.feature.FeatureAnswer.{FeatureAnswer}
use Rattle.btf_rewrite_model.specs.declared.feature.FillPolicy.TheVariants.{KeepSized, FillSized}
use Rattle.btf_rewrite_model.proofs.Kernels.{AgreeWith}
use Rattle.btf_table.specs.Features.{Called}
use Rattle.btf_rewrite_model.specs.FeatureSet.{feature_name}
use Rattle.btf_cli.specs.Setting.{Setting, Grants, FillsSized, SectionSize, SymbolOffset, KsymsId, PlaceholderId, Sets, fill_word, word_texts}
use Rattle.btf_cli.specs.Settings.{SetAll, is_grant, kernel_set, is_fill, policy_set}
use Rattle.btf_cli.specs.Request.{AreSet, asks_feature, policy_named}
use Rattle.btf_cli.specs.declared.request.Request.{Request}
use Rattle.btf_rewrite_model.proofs.FeatureSet.{AreOfKernel, kernel_agrees as agrees, kernel_grants, names_alike}

-- ---- granted features

word_grants : (word : List ℕ) (setting : Setting) (f : BtfFeature) → Sets word setting → bytes_eq word (feature_name f) ≡ is_grant f setting
word_grants word (Grants g) f sets = ap (λ (w : List ℕ). bytes_eq w (feature_name f)) sets ∙ names_alike g f
word_grants word FillsSized f sets = ap (λ (w : List ℕ). bytes_eq w (feature_name f)) sets ∙ elim f as (λ (g : BtfFeature). bytes_eq fill_word (feature_name g) ≡ false) [ features.Func ↦ refl | _ ↦ refl ]
word_grants word (SectionSize name size) f sets =
    ap (λ (w : List ℕ). bytes_eq w (feature_name f)) sets.1 ∙ elim f as (λ (g : BtfFeature). bytes_eq (codes "section:" ++ sets.0) (feature_name g) ≡ false) [ features.Func ↦ refl | _ ↦ refl ]
word_grants word (SymbolOffset name offset) f sets =
    ap (λ (w : List ℕ). bytes_eq w (feature_name f)) sets.1 ∙ elim f as (λ (g : BtfFeature). bytes_eq (codes "symbol:" ++ sets.0) (feature_name g) ≡ false) [ features.Func ↦ refl | _ ↦ refl ]
word_grants word (KsymsId id) f sets =
    ap (λ (w : List ℕ). bytes_eq w (feature_name f)) sets.1 ∙ elim f as (λ (g : BtfFeature). bytes_eq (codes "ksyms:" ++ sets.0) (feature_name g) ≡ false) [ features.Func ↦ refl | _ ↦ refl ]
word_grants word (PlaceholderId id) f sets =
    ap (λ (w : List ℕ). bytes_eq w (feature_name f)) sets.1 ∙ elim f as (λ (g : BtfFeature). bytes_eq (codes "placeholder:" ++ sets.0) (feature_name g) ≡ false) [ features.Func ↦ refl | _ ↦ refl ]

-- whether one of the words is a feature's
abbrev named_among : List (String Global) → BtfFeature → Bool
named_among words f = list_any (λ (word : String Global). bytes_eq (string_bytes word) (feature_name f)) words

words_grant : (words : List (String Global)) (settings : List Setting) (f : BtfFeature) → SetAll (word_texts words) settings → named_among words f ≡ list_any (is_grant f) settings
words_grant [] [] f all = refl
words_grant [] (s ∷ settings) f all = absurd all
words_grant (w ∷ words) [] f all = absurd all
words_grant (w ∷ words) (s ∷ settings) f all =
    ap (λ (b : Bool). b || named_among words f) (word_grants (string_bytes w) s f all.0) ∙ ap (λ (b : Bool). is_grant f s || b) (words_grant words settings f all.1)

-- ---- the policy

word_fills : (word : List ℕ) (setting : Setting) → Sets word setting → bytes_eq word fill_word ≡ is_fill setting
word_fills word (Grants g) sets = ap (λ (w : List ℕ). bytes_eq w fill_word) sets ∙ elim g as (λ (f : BtfFeature). bytes_eq (feature_name f) fill_word ≡ false) [ features.Func ↦ refl | _ ↦ refl ]
word_fills word FillsSized sets = ap (λ (w : List ℕ). bytes_eq w fill_word) sets
word_fills word (SectionSize name size) sets = ap (λ (w : List ℕ). bytes_eq w fill_word) sets.1
word_fills word (SymbolOffset name offset) sets = ap (λ (w : List ℕ). bytes_eq w fill_word) sets.1
word_fills word (KsymsId id) sets = ap (λ (w : List ℕ). bytes_eq w fill_word) sets.1
word_fills word (PlaceholderId id) sets = ap (λ (w : List ℕ). bytes_eq w fill_word) sets.1

words_fill : (words : List (String Global)) (settings : List Setting) → SetAll (word_texts words) settings → list_any (λ (word : String Global). bytes_eq (string_bytes word) fill_word) words ≡ list_any is_fill settings
words_fill [] [] all = refl
words_fill [] (s ∷ settings) all = absurd all
words_fill (w ∷ words) [] all = absurd all
words_fill (w ∷ words) (s ∷ settings) all =
    ap (λ (b : Bool). b || list_any (λ (word : String Global). bytes_eq (string_bytes word) fill_word) words) (word_fills (string_bytes w) s all.0) ∙ ap (λ (b : Bool). is_fill s || b) (words_fill words settings all.1)

-- the policy of a request is the policy of its settings
pub policy_is : (request : Request) (settings : List Setting) → AreSet request settings → policy_named request ≡ policy_set settings
policy_is request settings are_set = ap (λ (b : Bool). if b then FillSized else KeepSized) (words_fill request.words.now settings are_set.all)

-- ---- the answers of the kernel

-- each answer is whether a word is its feature's
abbrev pub AreNamed : Request → List FeatureAnswer → Type 0
AreNamed request answers = AreOfKernel (asks_feature request) answers

-- a predicate that gives these answers to every feature
pub all_named : {F : Type 0} (step : F → BtfFeature → Bool → F → Type 0) (request : Request) (Is : F → Type 0)
    → ((f g : F) (feature : BtfFeature) (granted : Bool) → Is f → step f feature granted g → (granted ≡ asks_feature request feature) × Is g)
    → (before : F) (answers : List FeatureAnswer) (after : F) → Is before → Called step before answers after → AreNamed request answers
all_named step request Is each before [] after is called = tt
all_named step request Is each before (a ∷ answers) after is called =
    let one = each before called.0 a.feature a.granted is called.1 in (one.0, all_named step request Is each called.0 answers after one.1 called.2)

-- such answers agree with the kernel's
pub kernel_agrees : (request : Request) (settings : List Setting) (answers : List FeatureAnswer) → AreSet request settings → AreNamed request answers → AgreeWith answers (kernel_set settings)
kernel_agrees request settings answers are_set named f among =
    kernel_grants (λ g. list_any (is_grant g) settings) f ∙ sym (words_grant request.words.now settings f are_set.all)
    ∙ sym (kernel_grants (asks_feature request) f) ∙ agrees (asks_feature request) answers named f among
