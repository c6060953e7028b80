-- The first error of bytes, by the parts that are read one after another.
use Rattle.std.proofs.Common.{◌≡◌, ◌∙◌, ℕ, List, Option, Result, Err, sym, ap, subst, map}
use Rattle.std.specs.Prelude.{IsErrAnd, MatchResult}
use Rattle.std.proofs.lemmas.Result.{err_from_is_err_and}
use Rattle.btf_elf_model.specs.Header.{file_header}
use Rattle.btf_elf_model.specs.Section.{section_header, section_count, headers_of, headers_in}
use Rattle.btf_elf_model.specs.Symbols.{symbol, symbol_table, symbols_of, symbol_names_of}
use Rattle.btf_elf_model.specs.Object.{Object, IsObject, symbol_error}
use Rattle.btf_elf_model.specs.declared.file_header.FileHeader.{FileHeader}
use Rattle.btf_elf_model.specs.declared.section_header.SectionHeader.{SectionHeader}
use Rattle.btf_elf_model.specs.declared.error.ParseError.{ParseError}
use Rattle.btf_elf.specs.declared.error.ObjectError.{ObjectError}
use Rattle.btf_elf.specs.declared.error.ObjectError.TheVariants.{Parse}
use Rattle.btf_elf_model.proofs.Errors.{Comes, NoneComes, first_comes, none_comes, errors_of, by_parts}
use Rattle.btf_elf.specs.Results.{IsElfError}
use Rattle.btf_elf.specs.Table.{section_header_bytes}
use Rattle.btf_elf.specs.SymbolTable.{IsSymbolTable}
use Rattle.btf_elf.specs.declared.symbols.SymbolTable.{SymbolTable}

-- the headers that the table spells are the sections of the bytes
pub sections_are : (bytes : List ℕ) (h : FileHeader) (table : List (List ℕ)) (sections : List SectionHeader)
    → h ≡ file_header bytes → table ≡ section_header_bytes h bytes → sections ≡ map (section_header h.order) table → sections ≡ headers_in bytes
unfolding headers_in headers_of
sections_are bytes h table sections p q r =
    r ∙ ap (map (section_header h.order)) q ∙ ap (λ (x : FileHeader). headers_of x (section_count x bytes) bytes) p

-- what `parse` returns if an error comes first
pub refused : (bytes : List ℕ) (h : FileHeader) (sections : List SectionHeader) (e : ParseError) (r : Result Object ObjectError)
    → IsErrAnd r (λ x. x ≡ Parse e) → h ≡ file_header bytes → sections ≡ headers_in bytes → Comes (errors_of bytes h sections) e
    → MatchResult r (IsObject bytes) (IsElfError bytes)
refused bytes h sections e r err p q comes =
    let at = err_from_is_err_and r err in
    subst (λ (x : Result Object ObjectError). MatchResult x (IsObject bytes) (IsElfError bytes)) (sym (at.1 ∙ ap (λ (x : ObjectError). Err x) at.2))
    (sym (by_parts bytes h sections p q) ∙ first_comes (errors_of bytes h sections) e comes)

-- the bytes represent the object, if there is no error
pub parsed : (bytes : List ℕ) (h : FileHeader) (headers sections : List SectionHeader) → h ≡ file_header bytes → headers ≡ headers_in bytes
    → headers ≡ sections → NoneComes (errors_of bytes h headers) → IsObject bytes (record { header = h; sections = sections; bytes = bytes })
parsed bytes h headers sections p q same none = record {
  no_error = sym (by_parts bytes h headers p q) ∙ none_comes (errors_of bytes h headers) none;
  object = λ i. let r : sections ≡ headers_in bytes = sym same ∙ q in record { header = p i; sections = r i; bytes = bytes };
}

-- what was checked for the symbols that were read holds for the symbols of the bytes
pub symbols_checked : (bytes : List ℕ) (h : FileHeader) (sections : List SectionHeader) (t : SymbolTable) → IsSymbolTable bytes sections (symbol_table sections) t
    → (o : Option ParseError) → symbol_error t.names.now (map (symbol h.order) t.entries.now) ≡ o
    → symbol_error (symbol_names_of bytes sections (symbol_table sections)) (symbols_of h.order bytes (symbol_table sections)) ≡ o
symbols_checked bytes h sections t is o checked =
    ap (λ (names : List ℕ). symbol_error names (symbols_of h.order bytes (symbol_table sections))) (sym is.names)
    ∙ ap (λ (entries : List (List ℕ)). symbol_error t.names.now (map (symbol h.order) entries)) (sym is.entries)
    ∙ checked
