-- The symbols of a symbol table and the names of symbols, as the code stores them.
use Rattle.std.specs.Prelude.{◌≡◌, ℕ, List, Option}
use Rattle.btf_elf_model.specs.Symbols.{symbol_entries, symbol_names_of}
use Rattle.btf_elf_model.specs.declared.section_header.SectionHeader.{SectionHeader}
use Rattle.btf_elf.specs.declared.symbols.SymbolTable.{SymbolTable}

-- These are the bytes of the symbols of a symbol table, and its string table.
pub record IsSymbolTable (bytes : List ℕ) (sections : List SectionHeader) (table : Option SectionHeader) (t : SymbolTable)
    : Type 0 where
  pub entries : t.entries.now ≡ symbol_entries bytes table
  pub names : t.names.now ≡ symbol_names_of bytes sections table
