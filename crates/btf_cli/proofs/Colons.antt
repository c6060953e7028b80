-- The texts before and after the first `:` of a word.
use Rattle.std.proofs.Common.{◌≡◌, ◌≢◌, ℕ, List, sym, ap, ◌∙◌}
use Rattle.std.specs.Prelude.{◌==◌, codes}
use Rattle.std.specs.List.{before_first, after_first}
use Rattle.btf_rewrite_model.specs.declared.feature.BtfFeature.{BtfFeature}
use Rattle.btf_rewrite_model.specs.FeatureSet.{feature_name}
use Rattle.btf_cli.specs.Setting.{Setting, Grants, FillsSized, SectionSize, SymbolOffset, KsymsId, PlaceholderId, Sets, fill_word, IsNamedNumber, IsId}

-- the word is split there into these texts
pub record IsCut (word what rest : List ℕ) : Type 0 where
  pub front : what ≡ before_first (λ b. b == 58) word
  pub back : rest ≡ after_first (λ b. b == 58) word

-- the setting of a word with `:`, by the text before it
abbrev pub SetsBy : List ℕ → List ℕ → Setting → Type 0
SetsBy what rest (Grants feature) = ⊥
SetsBy what rest FillsSized = ⊥
SetsBy what rest (SectionSize name size) = (what ≡ codes "section") × IsNamedNumber rest name size
SetsBy what rest (SymbolOffset name offset) = (what ≡ codes "symbol") × IsNamedNumber rest name offset
SetsBy what rest (KsymsId id) = (what ≡ codes "ksyms") × IsId rest id
SetsBy what rest (PlaceholderId id) = (what ≡ codes "placeholder") × IsId rest id

pub sets_by : (word what rest : List ℕ) → IsCut word what rest → ((f : BtfFeature) → word ≢ feature_name f) → word ≢ fill_word → (setting : Setting) → Sets word setting → SetsBy what rest setting
sets_by word what rest cut unnamed other (Grants feature) sets = unnamed feature sets
sets_by word what rest cut unnamed other FillsSized sets = other sets
sets_by word what rest cut unnamed other (SectionSize name size) sets =
    let rest_is : rest ≡ sets.0 = cut.back ∙ ap (after_first (λ b. b == 58)) sets.1 in
    (cut.front ∙ ap (before_first (λ b. b == 58)) sets.1, rw rest_is sets.2)
sets_by word what rest cut unnamed other (SymbolOffset name offset) sets =
    let rest_is : rest ≡ sets.0 = cut.back ∙ ap (after_first (λ b. b == 58)) sets.1 in
    (cut.front ∙ ap (before_first (λ b. b == 58)) sets.1, rw rest_is sets.2)
sets_by word what rest cut unnamed other (KsymsId id) sets =
    let rest_is : rest ≡ sets.0 = cut.back ∙ ap (after_first (λ b. b == 58)) sets.1 in
    (cut.front ∙ ap (before_first (λ b. b == 58)) sets.1, rw rest_is sets.2)
sets_by word what rest cut unnamed other (PlaceholderId id) sets =
    let rest_is : rest ≡ sets.0 = cut.back ∙ ap (after_first (λ b. b == 58)) sets.1 in
    (cut.front ∙ ap (before_first (λ b. b == 58)) sets.1, rw rest_is sets.2)

-- a word with this beginning is invalid if no name and number follow
pub section_unset : (what rest : List ℕ) → what ≡ codes "section" → ((name : List ℕ) (n : ℕ) → IsNamedNumber rest name n → ⊥) → (setting : Setting) → SetsBy what rest setting → ⊥
section_unset what rest is unnamed (Grants feature) sets = sets
section_unset what rest is unnamed FillsSized sets = sets
section_unset what rest is unnamed (SectionSize name size) sets = unnamed name size sets.1
section_unset what rest is unnamed (SymbolOffset name offset) sets = let other = sym is ∙ sets.0 in cc
section_unset what rest is unnamed (KsymsId id) sets = let other = sym is ∙ sets.0 in cc
section_unset what rest is unnamed (PlaceholderId id) sets = let other = sym is ∙ sets.0 in cc

pub symbol_unset : (what rest : List ℕ) → what ≡ codes "symbol" → ((name : List ℕ) (n : ℕ) → IsNamedNumber rest name n → ⊥) → (setting : Setting) → SetsBy what rest setting → ⊥
symbol_unset what rest is unnamed (Grants feature) sets = sets
symbol_unset what rest is unnamed FillsSized sets = sets
symbol_unset what rest is unnamed (SectionSize name size) sets = let other = sym is ∙ sets.0 in cc
symbol_unset what rest is unnamed (SymbolOffset name offset) sets = unnamed name offset sets.1
symbol_unset what rest is unnamed (KsymsId id) sets = let other = sym is ∙ sets.0 in cc
symbol_unset what rest is unnamed (PlaceholderId id) sets = let other = sym is ∙ sets.0 in cc
