-- What is read from a section and from a symbol, and the section of the table.
use Rattle.std.specs.Prelude.{◌≡◌, ◌⊎◌, ℕ, Bool, List, true, false, slice_get, option_map, Option, Some, String}
use Rattle.std.specs.HashMap.{HashMap, get_by_text}
use Rattle.btf_elf_model.specs.Object.{Object, section_name, section_bytes, symbols, symbol_name}
use Rattle.btf_elf_model.specs.declared.section_header.SectionHeader.{SectionHeader}
use Rattle.btf_elf_model.specs.declared.symbol.Symbol.{Symbol}
use Rattle.btf_object_model.specs.Layout.{is_askable, is_read_symbol}
use Rattle.btf_object_model.specs.Sanitized.{first_section_index, table_name}
use Rattle.btf_plain.specs.declared.section_index.SectionIndex.{SectionIndex}

-- the index that a map has for the section of a name
abbrev pub name_indices : {Y S : Type 0} → HashMap (String Y) (SectionIndex × ℕ) S → List ℕ → Option ℕ
name_indices sections name = option_map (λ (s : SectionIndex × ℕ). s.0.0) (get_by_text sections name)

-- The section of an index has this name, and a rewrite may ask for the name; and it has this size.
pub record IsReadSection (o : Object) (index : ℕ) (name : List ℕ) (size : ℕ) : Type 0 where
  pub section : SectionHeader
  pub here : slice_get o.sections index ≡ Some section
  pub named : name ≡ section_name o section
  pub askable : is_askable name ≡ true
  pub size_is : size ≡ section.size

-- No rewrite asks for the name of the section of this index, if there is such a section.
abbrev pub IsSectionLeftOut : Object → ℕ → Type 0
IsSectionLeftOut o index =
    (s : SectionHeader) → slice_get o.sections index ≡ Some s → is_askable (section_name o s) ≡ false

-- The symbol of an index is wanted. It has this name, and a rewrite may ask for the name; and it has this number.
pub record IsNamedSymbol (wants : Symbol → Bool) (number : Symbol → ℕ) (o : Object) (index : ℕ) (name : List ℕ)
    (value : ℕ) : Type 0 where
  pub symbol : Symbol
  pub here : slice_get (symbols o) index ≡ Some symbol
  pub wanted : wants symbol ≡ true
  pub named : name ≡ symbol_name o symbol
  pub askable : is_askable name ≡ true
  pub value_is : value ≡ number symbol

-- The symbol of this index, if there is one, is not wanted, or no rewrite asks for its name.
abbrev pub IsUnnamed : (Symbol → Bool) → Object → ℕ → Type 0
IsUnnamed wants o index =
    (s : Symbol) → slice_get (symbols o) index ≡ Some s
    → (wants s ≡ false) ⊎ (is_askable (symbol_name o s) ≡ false)

-- The symbol of an index is read, and it has this name and this value.
abbrev pub IsReadSymbol : Object → ℕ → List ℕ → ℕ → Type 0
IsReadSymbol = IsNamedSymbol is_read_symbol (λ (s : Symbol). s.value)

-- The symbol of this index, if there is one, is not read, or no rewrite asks for its name.
abbrev pub IsSymbolLeftOut : Object → ℕ → Type 0
IsSymbolLeftOut = IsUnnamed is_read_symbol

-- The first section that is named `.BTF` has this index and these bytes.
pub record IsTableSection (o : Object) (index : ℕ) (bytes : List ℕ) : Type 0 where
  pub section : SectionHeader
  pub first : first_section_index o table_name ≡ Some index
  pub here : slice_get o.sections index ≡ Some section
  pub bytes_are : bytes ≡ section_bytes o section

-- the text is this name, and a rewrite may ask for it
abbrev pub IsAskable : List ℕ → List ℕ → Type 0
IsAskable name text = (text ≡ name) × (is_askable name ≡ true)
