-- Objects: which bytes are an object, and the first error of other bytes.
-- Source: ELF gABI, chapter 4, "Object Files". The order of the errors is a choice of this project. Sections may
-- overlap one another, and nothing is required of types, addresses, alignments, program headers and relocations.
use Rattle.std.specs.Prelude.{◌≡◌, ℕ, ◌==◌, ◌||◌, ◌&&◌, not, nat_eq, nat_lt, Bool, List, [], ◌∷◌, length, position, if◌then◌else◌, Option, Some, None, is_none, option_map, unwrap_or}
use Rattle.std.specs.List.{starts_with}
use Rattle.std.specs.Option.{option_and_then}
use Rattle.btf_elf_model.specs.Header.{magic, file_header_len, class_of, elf_encoding, identification_version, front, file_header}
use Rattle.btf_elf_model.specs.Section.{table_end, headers_in, contents, is_past_end, is_over_headers, is_name_offset, string_from, string_table, names_index}
use Rattle.btf_elf_model.specs.Symbols.{symbol_table, is_malformed, symbols_of, symbol_names_of}
use Rattle.btf_elf_model.specs.declared.file_header.FileHeader.{FileHeader}
use Rattle.btf_elf_model.specs.declared.section_header.SectionHeader.{SectionHeader}
use Rattle.btf_elf_model.specs.declared.symbol.Symbol.{Symbol}
use Rattle.btf_elf_model.specs.declared.error.ParseError.{ParseError}
use Rattle.btf_elf_model.specs.declared.error.ParseError.TheVariants.{NotElf, UnsupportedClass, UnsupportedEncoding, UnsupportedVersion, BadHeaderSize, SectionTableOutOfRange, SectionOutOfRange, SectionOverHeaders, BadNameTable, BadSectionName, BadSymbolTable, BadSymbolName}

-- An object: the words of its file header, the headers of its sections by their indices, and the bytes of the file.
pub record Object : Type 0 where
  pub header : FileHeader
  pub sections : List SectionHeader
  pub bytes : List ℕ

-- the object that bytes represent, if they have no error
abbrev pub object_of : List ℕ → Object
object_of bytes = record { header = file_header bytes; sections = headers_in bytes; bytes = bytes }

-- the bytes of a section
abbrev pub section_bytes : Object → SectionHeader → List ℕ
section_bytes o s = contents o.bytes s

-- the string table that e_shstrndx names; none if it names none
abbrev pub names_of : FileHeader → List ℕ → List SectionHeader → Option (List ℕ)
names_of h bytes sections = string_table bytes sections (names_index h sections)

-- the string table with the names of sections
abbrev pub name_table : Object → Option (List ℕ)
name_table o = names_of o.header o.bytes o.sections

-- the name of a section
abbrev pub section_name : Object → SectionHeader → List ℕ
section_name o s = string_from (unwrap_or (name_table o) []) s.name

-- the symbols, by their indices
abbrev pub symbols : Object → List Symbol
symbols o = symbols_of o.header.order o.bytes (symbol_table o.sections)

-- the string table with the names of symbols
abbrev pub symbol_names : Object → List ℕ
symbol_names o = symbol_names_of o.bytes o.sections (symbol_table o.sections)

-- the name of a symbol
abbrev pub symbol_name : Object → Symbol → List ℕ
symbol_name o s = string_from (symbol_names o) s.name

-- ---- errors

-- the error if the test holds, else none
abbrev pub error_when : Bool → ParseError → Option ParseError
error_when holds e = if holds then Some e else None

-- the first of several errors
abbrev pub first_error : List (Option ParseError) → Option ParseError
first_error [] = None
first_error (Some e ∷ more) = Some e
first_error (None ∷ more) = first_error more

-- The first error of the identification in the first 64 bytes. The identification determines how the other words are
-- read.
unfoldable pub identification_error : List ℕ → Option ParseError
identification_error header = first_error (
    error_when (nat_lt (length header) file_header_len || not (starts_with nat_eq header magic)) NotElf
    ∷ error_when (not (class_of header == 2)) (UnsupportedClass (class_of header))
    ∷ error_when (not (elf_encoding header == 1) && not (elf_encoding header == 2)) (UnsupportedEncoding (elf_encoding header))
    ∷ error_when (not (identification_version header == 1)) UnsupportedVersion
    ∷ [])

-- The first error of the other words of the file header.
unfoldable pub header_error : FileHeader → Option ParseError
header_error h = first_error (
    error_when (not (h.version == 1)) UnsupportedVersion
    ∷ error_when (not (h.header_size == 64) || (not (h.section_headers == 0) && not (h.section_header_size == 64)))
    BadHeaderSize
    ∷ [])

-- The table of section headers begins in the file header, or ends after the end of the bytes.
unfoldable pub table_error : FileHeader → List ℕ → Option ParseError
table_error h bytes =
    error_when (not (h.section_headers == 0)
    && (nat_lt h.section_headers file_header_len || nat_lt (length bytes) (table_end h bytes)))
    SectionTableOutOfRange

-- The first section that ends after the end of the bytes, or else the first that overlaps a header.
unfoldable pub section_error : FileHeader → List ℕ → List SectionHeader → Option ParseError
section_error h bytes sections = first_error (
    option_map SectionOutOfRange (position (is_past_end (length bytes)) sections)
    ∷ option_map SectionOverHeaders (position (is_over_headers h.section_headers (table_end h bytes)) sections)
    ∷ [])

-- There is no table of section names, or else the first section whose name does not begin in it.
unfoldable pub name_error : Option (List ℕ) → List SectionHeader → Option ParseError
name_error names sections = first_error (
    error_when (is_none names) BadNameTable
    ∷ option_map BadSectionName (position (λ s. not (is_name_offset (unwrap_or names []) s.name)) sections)
    ∷ [])

-- The symbol table is malformed.
unfoldable pub symbol_table_error : List ℕ → List SectionHeader → Option ParseError
symbol_table_error bytes sections =
    option_and_then (λ s. error_when (is_malformed bytes sections s) BadSymbolTable) (symbol_table sections)

-- The first symbol whose name does not begin in the string table.
unfoldable pub symbol_error : List ℕ → List Symbol → Option ParseError
symbol_error names symbols = option_map BadSymbolName (position (λ s. not (is_name_offset names s.name)) symbols)

-- The first error of bytes; none if they are an object.
unfoldable pub parse_error : List ℕ → Option ParseError
parse_error bytes = let o = object_of bytes in
    first_error (
    identification_error (front bytes)
    ∷ header_error o.header
    ∷ table_error o.header bytes
    ∷ section_error o.header bytes o.sections
    ∷ name_error (name_table o) o.sections
    ∷ symbol_table_error bytes o.sections
    ∷ symbol_error (symbol_names o) (symbols o)
    ∷ [])

-- The bytes represent this object, and have no error.
pub record IsObject (bytes : List ℕ) (o : Object) : Type 0 where
  pub no_error : parse_error bytes ≡ None
  pub object : o ≡ object_of bytes

-- The bytes represent no object, and this is their first error.
abbrev pub IsParseError : List ℕ → ParseError → Type 0
IsParseError bytes e = parse_error bytes ≡ Some e
