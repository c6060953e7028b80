-- The setting that a word of a rewrite makes.
use Rattle.std.specs.Prelude.{◌≡◌, ◌<◌, ◌^◌, ◌++◌, List, ℕ, string_bytes, codes, map}
use Rattle.std.specs.Prelude.{String}
use Rattle.std.specs.Str.Parse.{IsNumeral, digits_value}
use Rattle.std.specs.declared.alloc.Global.{Global}
use Rattle.btf_rewrite_model.specs.declared.feature.BtfFeature.{BtfFeature}
use Rattle.btf_rewrite_model.specs.FeatureSet.{feature_name}

-- the texts of the words
abbrev pub word_texts : List (String Global) → List (List ℕ)
word_texts words = map string_bytes words

-- one or more decimal digits, and their number, which has this many bits
abbrev pub IsDecimal : ℕ → List ℕ → ℕ → Type 0
IsDecimal bits text n = IsNumeral 10 text × (digits_value 10 text ≡ n) × (n < 2 ^ bits)

-- a text, and the id that it names
abbrev pub IsId : List ℕ → ℕ → Type 0
IsId text id = IsDecimal 32 text id

-- A name and a number with `=` between them. Because the number consists of digits, the name ends at the last `=`.
abbrev pub IsNamedNumber : List ℕ → List ℕ → ℕ → Type 0
IsNamedNumber text name n = (digits : List ℕ) × (text ≡ name ++ codes "=" ++ digits) × IsDecimal 64 digits n

-- the word for filling DATASECs that have a size
abbrev pub fill_word : List ℕ
fill_word = codes "fill-sized"

-- a setting
pub data Setting : Type 0 where
  -- the kernel has this feature
  Grants : (feature : BtfFeature) → Setting
  -- a DATASEC that has a size and no entries gets an entry if the kernel rejects one without entries
  FillsSized : Setting
  -- the section of this name has this size
  SectionSize : (name : List ℕ) (size : ℕ) → Setting
  -- the symbol of this name has this offset
  SymbolOffset : (name : List ℕ) (offset : ℕ) → Setting
  -- this is the id of `.ksyms`
  KsymsId : (id : ℕ) → Setting
  -- this is the id of the VAR that replaces functions
  PlaceholderId : (id : ℕ) → Setting

-- The word makes this setting.
abbrev pub Sets : List ℕ → Setting → Type 0
Sets word (Grants feature) = word ≡ feature_name feature
Sets word FillsSized = word ≡ fill_word
Sets word (SectionSize name size) = (text : List ℕ) × (word ≡ codes "section:" ++ text) × IsNamedNumber text name size
Sets word (SymbolOffset name offset) = (text : List ℕ) × (word ≡ codes "symbol:" ++ text) × IsNamedNumber text name offset
Sets word (KsymsId id) = (text : List ℕ) × (word ≡ codes "ksyms:" ++ text) × IsId text id
Sets word (PlaceholderId id) = (text : List ℕ) × (word ≡ codes "placeholder:" ++ text) × IsId text id
