-- The laws of the definitions. Each is the contract of a public function of this crate.
use Rattle.std.specs.Prelude.{◌≡◌, ◌⊎◌, ℕ, ◌+◌, ◌<◌, ◌≤◌, true, List, [], length, slice_get, Some, unwrap_or}
use Rattle.btf_elf_model.specs.Header.{file_header_len}
use Rattle.btf_elf_model.specs.Section.{has_bytes, table_end, string_from}
use Rattle.btf_elf_model.specs.Object.{Object, IsObject, IsParseError, name_table, symbols, symbol_names}
use Rattle.btf_elf_model.specs.declared.section_header.SectionHeader.{SectionHeader}
use Rattle.btf_elf_model.specs.declared.symbol.Symbol.{Symbol}
use Rattle.btf_elf_model.specs.declared.error.ParseError.{ParseError}

-- Bytes represent one object, or are refused with one error, and never both.
pub record ObjectIsDetermined : Type 0 where
  pub one_object : (bytes : List ℕ) (o p : Object) → IsObject bytes o → IsObject bytes p → o ≡ p
  pub one_error : (bytes : List ℕ) (e f : ParseError) → IsParseError bytes e → IsParseError bytes f → e ≡ f
  pub not_both : (bytes : List ℕ) (o : Object) (e : ParseError) → IsObject bytes o → IsParseError bytes e → ⊥
  pub one_of_both : (bytes : List ℕ) → ((o : Object) × IsObject bytes o) ⊎ ((e : ParseError) × IsParseError bytes e)

-- A name of a string table ends: a zero byte is right after the name, or it is the empty name in an empty table.
abbrev pub Ends : List ℕ → ℕ → Type 0
Ends strings offset =
    ((strings ≡ []) × (offset ≡ 0)) ⊎ (slice_get strings (offset + length (string_from strings offset)) ≡ Some 0)

-- What holds for bytes without errors: sections with bytes are in the file, and share no bytes with the file header and
-- the table of section headers; and the names of sections and symbols end.
pub record ObjectIsSound : Type 0 where
  pub sections_are_within : (bytes : List ℕ) (o : Object) (index : ℕ) (s : SectionHeader) → IsObject bytes o
      → slice_get o.sections index ≡ Some s → has_bytes s ≡ true → s.offset + s.size ≤ length bytes
  pub headers_are_apart : (bytes : List ℕ) (o : Object) (index : ℕ) (s : SectionHeader) → IsObject bytes o
      → slice_get o.sections index ≡ Some s → has_bytes s ≡ true → 0 < s.size
      → (file_header_len ≤ s.offset)
      × ((table_end o.header bytes ≤ s.offset) ⊎ (s.offset + s.size ≤ o.header.section_headers))
  pub section_names_end : (bytes : List ℕ) (o : Object) (index : ℕ) (s : SectionHeader) → IsObject bytes o
      → slice_get o.sections index ≡ Some s → Ends (unwrap_or (name_table o) []) s.name
  pub symbol_names_end : (bytes : List ℕ) (o : Object) (index : ℕ) (s : Symbol) → IsObject bytes o
      → slice_get (symbols o) index ≡ Some s → Ends (symbol_names o) s.name
