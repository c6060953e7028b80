use Rattle.std.proofs.Common.{◌≡◌, ◌∙◌, List, Some, refl, subst, inl, inr}
use Rattle.btf_elf_model.specs.Header.{file_header}
use Rattle.btf_elf_model.specs.Section.{headers_in}
use Rattle.btf_elf_model.specs.Symbols.{symbol_table}
use Rattle.btf_elf_model.specs.Object.{names_of}
use Rattle.btf_elf_model.specs.declared.section_header.SectionHeader.{SectionHeader}
use Rattle.btf_elf.specs.SymbolTable.{IsSymbolTable}
use Rattle.btf_elf.proofs.Parsing.{refused, parsed, sections_are, symbols_checked}
use Rattle.btf_elf.proofs.object.Object.parse.Goals as goal

pub returns-in_err-header : goal.returns-in_err-header
returns-in_err-header c =
    let bytes = c.args.bytes.now in
    refused bytes (file_header bytes) (headers_in bytes) c.in_err-header.field-0.0 c.from_residual.result c.from_residual.ensures.1 refl refl (inl c.in_err-header.ensures.error)

pub returns-in_err-check_header : goal.returns-in_err-check_header
returns-in_err-check_header c =
    let bytes = c.args.bytes.now in
    let h = c.in_ok-header.header in
    let p = c.in_ok-header.ensures.ok in
    refused bytes h (headers_in bytes) c.in_err-check_header.field-0.0 c.from_residual-in_err-check_header.result c.from_residual-in_err-check_header.ensures.1 p refl (inr (c.in_ok-header.ensures.error, inl c.in_err-check_header.ensures))

pub returns-in_err-table : goal.returns-in_err-table
returns-in_err-table c =
    let bytes = c.args.bytes.now in
    let h = c.in_ok-header.header in
    let p = c.in_ok-header.ensures.ok in
    refused bytes h (headers_in bytes) c.in_err-table.field-0.0 c.from_residual-in_err-table.result c.from_residual-in_err-table.ensures.1 p refl (inr (c.in_ok-header.ensures.error, inr (c.in_ok-check_header.ensures, inl c.in_err-table.ensures.error)))

pub returns-in_err-check_sections : goal.returns-in_err-check_sections
returns-in_err-check_sections c =
    let bytes = c.args.bytes.now in
    let h = c.in_ok-header.header in
    let p = c.in_ok-header.ensures.ok in
    let headers = c.as_slice-headers.result.now in
    let q : headers ≡ headers_in bytes = c.as_slice-headers.ensures.value ∙ sections_are bytes h c.in_ok-table.table.now c.in_ok-sections.sections.items p c.in_ok-table.ensures.ok.0 c.in_ok-sections.ensures in
    refused bytes h headers c.in_err-check_sections.field-0.0 c.from_residual-in_err-check_sections.result c.from_residual-in_err-check_sections.ensures.1 p q (inr (c.in_ok-header.ensures.error, inr (c.in_ok-check_header.ensures, inr (c.in_ok-table.ensures.error, inl c.in_err-check_sections.ensures))))

pub returns-in_err-names : goal.returns-in_err-names
returns-in_err-names c =
    let bytes = c.args.bytes.now in
    let h = c.in_ok-header.header in
    let p = c.in_ok-header.ensures.ok in
    let headers = c.as_slice-headers.result.now in
    let q : headers ≡ headers_in bytes = c.as_slice-headers.ensures.value ∙ sections_are bytes h c.in_ok-table.table.now c.in_ok-sections.sections.items p c.in_ok-table.ensures.ok.0 c.in_ok-sections.ensures in
    refused bytes h headers c.in_err-names.field-0.0 c.from_residual-in_err-names.result c.from_residual-in_err-names.ensures.1 p q (inr (c.in_ok-header.ensures.error, inr (c.in_ok-check_header.ensures, inr (c.in_ok-table.ensures.error, inr (c.in_ok-check_sections.ensures, inl c.in_err-names.ensures.error)))))

pub returns-in_err-symbols : goal.returns-in_err-symbols
returns-in_err-symbols c =
    let bytes = c.args.bytes.now in
    let h = c.in_ok-header.header in
    let p = c.in_ok-header.ensures.ok in
    let headers = c.as_slice-headers.result.now in
    let q : headers ≡ headers_in bytes = c.as_slice-headers.ensures.value ∙ sections_are bytes h c.in_ok-table.table.now c.in_ok-sections.sections.items p c.in_ok-table.ensures.ok.0 c.in_ok-sections.ensures in
    refused bytes h headers c.in_err-symbols.field-0.0 c.from_residual-in_err-symbols.result c.from_residual-in_err-symbols.ensures.1 p q (inr (c.in_ok-header.ensures.error, inr (c.in_ok-check_header.ensures, inr (c.in_ok-table.ensures.error, inr (c.in_ok-check_sections.ensures, inr (c.in_ok-names.ensures.error, inl c.in_err-symbols.ensures.error))))))

pub returns-in_err-check_symbols : goal.returns-in_err-check_symbols
returns-in_err-check_symbols c =
    let bytes = c.args.bytes.now in
    let h = c.in_ok-header.header in
    let p = c.in_ok-header.ensures.ok in
    let headers = c.as_slice-headers.result.now in
    let q : headers ≡ headers_in bytes = c.as_slice-headers.ensures.value ∙ sections_are bytes h c.in_ok-table.table.now c.in_ok-sections.sections.items p c.in_ok-table.ensures.ok.0 c.in_ok-sections.ensures in
    refused bytes h headers c.in_err-check_symbols.field-0.0 c.from_residual-in_err-check_symbols.result c.from_residual-in_err-check_symbols.ensures.1 p q (inr (c.in_ok-header.ensures.error, inr (c.in_ok-check_header.ensures, inr (c.in_ok-table.ensures.error, inr (c.in_ok-check_sections.ensures, inr (c.in_ok-names.ensures.error, inr (c.in_ok-symbols.ensures.error, inl (symbols_checked bytes h headers c.in_ok-symbols.symbols c.in_ok-symbols.ensures.ok _ c.in_err-check_symbols.ensures))))))))

pub returns : goal.returns
returns c =
    let bytes = c.args.bytes.now in
    let h = c.in_ok-header.header in
    let p = c.in_ok-header.ensures.ok in
    let headers = c.as_slice-headers.result.now in
    let q : headers ≡ headers_in bytes = c.as_slice-headers.ensures.value ∙ sections_are bytes h c.in_ok-table.table.now c.in_ok-sections.sections.items p c.in_ok-table.ensures.ok.0 c.in_ok-sections.ensures in
    parsed bytes h headers c.in_ok-sections.sections.items p q c.as_slice-headers.ensures.value (c.in_ok-header.ensures.error, (c.in_ok-check_header.ensures, (c.in_ok-table.ensures.error, (c.in_ok-check_sections.ensures, (c.in_ok-names.ensures.error, (c.in_ok-symbols.ensures.error, ((symbols_checked bytes h headers c.in_ok-symbols.symbols c.in_ok-symbols.ensures.ok _ c.in_ok-check_symbols.ensures), tt)))))))

pub invariant_of-result : goal.invariant_of-result
invariant_of-result c = record {
  object =
      let bytes = c.args.bytes.now in
      let h = c.in_ok-header.header in
      let p = c.in_ok-header.ensures.ok in
      let headers = c.as_slice-headers.result.now in
      let q : headers ≡ headers_in bytes = c.as_slice-headers.ensures.value ∙ sections_are bytes h c.in_ok-table.table.now c.in_ok-sections.sections.items p c.in_ok-table.ensures.ok.0 c.in_ok-sections.ensures in
      parsed bytes h headers c.in_ok-sections.sections.items p q c.as_slice-headers.ensures.value (c.in_ok-header.ensures.error, (c.in_ok-check_header.ensures, (c.in_ok-table.ensures.error, (c.in_ok-check_sections.ensures, (c.in_ok-names.ensures.error, (c.in_ok-symbols.ensures.error, ((symbols_checked bytes h headers c.in_ok-symbols.symbols c.in_ok-symbols.ensures.ok _ c.in_ok-check_symbols.ensures), tt)))))));
  names = subst (λ (xs : List SectionHeader). names_of c.in_ok-header.header c.args.bytes.now xs ≡ Some c.in_ok-names.names.now) c.as_slice-headers.ensures.value c.in_ok-names.ensures.ok;
  symbols = subst (λ (xs : List SectionHeader). IsSymbolTable c.args.bytes.now xs (symbol_table xs) c.in_ok-symbols.symbols) c.as_slice-headers.ensures.value c.in_ok-symbols.ensures.ok;
}
