-- Symbols.
-- Source: ELF gABI, chapter 4, "Symbol Table": an object has at most one section of type SHT_SYMTAB, whose sh_link is
-- the index of its string table. If there are more such sections, the first one counts: a choice of this project.
use Rattle.std.specs.Prelude.{ℕ, ◌/◌, ◌%◌, ◌==◌, ◌||◌, not, List, [], length, map, find, slice_index, Option, Some, None, is_none, unwrap_or, Bool}
use Rattle.std.specs.Simd.{first_chunks}
use Rattle.btf_model.specs.Blob.{word_at}
use Rattle.btf_model.specs.declared.endianness.Endianness.{Endianness}
use Rattle.btf_elf_model.specs.Header.{half_at, xword_at}
use Rattle.btf_elf_model.specs.Section.{contents, string_table, sht_symtab}
use Rattle.btf_elf_model.specs.declared.section_header.SectionHeader.{SectionHeader}
use Rattle.btf_elf_model.specs.declared.symbol.Symbol.{Symbol}

-- the length of a symbol in bytes
abbrev pub symbol_len : ℕ
symbol_len = 24

-- the symbol that 24 bytes spell
unfoldable pub symbol : Endianness → List ℕ → Symbol
symbol order entry = record {
  name = word_at order 0 entry;
  binding = slice_index entry 4 / 16;
  kind = slice_index entry 4 % 16;
  other = slice_index entry 5;
  section = half_at order 6 entry;
  value = xword_at order 8 entry;
  size = xword_at order 16 entry;
}

-- The section is a symbol table.
abbrev pub is_symbol_table : SectionHeader → Bool
is_symbol_table s = s.kind == sht_symtab

-- the symbol table: the first section of its type
abbrev pub symbol_table : List SectionHeader → Option SectionHeader
symbol_table sections = find is_symbol_table sections

-- A symbol table is malformed: its entry size is not 24, its last entry is truncated, or it has no string table.
unfoldable pub is_malformed : List ℕ → List SectionHeader → SectionHeader → Bool
is_malformed bytes sections s =
    not (s.entry_size == symbol_len) || not (length (contents bytes s) % symbol_len == 0)
    || is_none (string_table bytes sections s.link)

-- the bytes of each symbol of a symbol table; none without one
abbrev pub symbol_entries : List ℕ → Option SectionHeader → List (List ℕ)
symbol_entries bytes None = []
symbol_entries bytes (Some s) = let entries = contents bytes s in
    first_chunks symbol_len (length entries / symbol_len) entries

-- the symbols of a symbol table
abbrev pub symbols_of : Endianness → List ℕ → Option SectionHeader → List Symbol
symbols_of order bytes table = map (symbol order) (symbol_entries bytes table)

-- the string table of a symbol table; an empty one without one
abbrev pub symbol_names_of : List ℕ → List SectionHeader → Option SectionHeader → List ℕ
symbol_names_of bytes sections None = []
symbol_names_of bytes sections (Some s) = unwrap_or (string_table bytes sections s.link) []
