-- An object in which the bytes of a section were replaced is an object, and everything else in it is unchanged.
use Rattle.std.proofs.Common.{◌≡◌, ◌≢◌, ◌∙◌, ℕ, zero, suc, ◌+◌, ◌-◌, ◌*◌, ◌^◌, ◌<◌, ◌≤◌, Bool, true, false, List, [], ◌∷◌, length, get_or, map, Option, None, Some, refl, sym, ap, subst, arith, ⊎_elim}
use Rattle.std.specs.Prelude.{◌==◌, ◌%◌, ◌/◌, ◌&&◌, ◌||◌, not, max, slice_get, slice_set, option_map, position, find, if◌then◌else◌, unwrap_or, is_none}
use Rattle.std.specs.Option.{option_and_then}
use Rattle.std.specs.Simd.{first_chunks}
use Rattle.std.proofs.lemmas.Bool.{and_left, cond-false, cases_lt, cases_eq, both_ways}
use Rattle.std.proofs.lemmas.List.{length-set, get_or-set_other, get_or-set_same, get_or_default}
use Rattle.std.proofs.lemmas.List.Recursion.{found_set_other}
use Rattle.std.proofs.lemmas.Option.{slice_get_past, slice_get-get_or, slice_get_within, get_or_from_slice_get}
use Rattle.btf_elf_model.specs.Header.{file_header_len, file_header}
use Rattle.btf_elf_model.specs.Section.{table_end, headers_in, has_bytes, contents, is_past_end, is_over_headers, is_string_table, is_name_offset, strings_in, string_table, link_of_first, names_index, sht_strtab, sht_symtab}
use Rattle.btf_elf_model.specs.Symbols.{symbol, symbol_len, is_symbol_table, symbol_table, is_malformed, symbol_entries, symbols_of, symbol_names_of}
use Rattle.btf_elf_model.specs.Object.{Object, IsObject, names_of, object_of, parse_error, identification_error, table_error, name_error, symbol_table_error, symbol_error, error_when}
use Rattle.btf_elf_model.specs.Replaced.{ReplacesSection, is_replaceable, place, moved_header}
use Rattle.btf_elf_model.specs.declared.file_header.FileHeader.{FileHeader}
use Rattle.btf_elf_model.specs.declared.section_header.SectionHeader.{SectionHeader}
use Rattle.btf_elf_model.specs.declared.error.ParseError.TheVariants.{BadNameTable, BadSectionName, BadSymbolTable}
use Rattle.btf_elf.specs.Writing.{file_with_section, HasReplaced}
use Rattle.btf_elf_model.proofs.Errors.{none_comes, all_none, map_none, no_errors, errors_of, by_parts}
use Rattle.btf_elf_model.proofs.Tests.{none_passes, position-none, past_not, not_past, over_not, SectionsFit, table_fits, fits_table, fit_sections}
use Rattle.btf_elf.proofs.Entries.{found_at, slice_get-set_other, slice_get-set_same}
use Rattle.btf_elf.proofs.Rewritten as written
use Rattle.btf_elf.proofs.Rewritten.{IsWritten}

link-set : (xs : List SectionHeader) (i : ℕ) (v : SectionHeader) → 0 < i → link_of_first (slice_set xs i v) ≡ link_of_first xs
link-set [] i v lt = refl
link-set (x ∷ xs) zero v lt = absurd (omega arith)
link-set (x ∷ xs) (suc i) v lt = refl

module _ (bytes : List ℕ) (index : ℕ) (s : SectionHeader) (given new : List ℕ) (w : IsWritten bytes index s given new) where
  abbrev ss : List SectionHeader
  ss = headers_in bytes

  abbrev h : FileHeader
  h = file_header bytes

  -- the new header of the section
  abbrev there : SectionHeader
  there = moved_header (place (object_of bytes) index s (length given)) (length given) s

  abbrev ss' : List SectionHeader
  ss' = slice_set ss index there

  is_some : (0 < index) × (has_bytes s ≡ true) × ((s.kind == sht_strtab) ≡ false) × ((s.kind == sht_symtab) ≡ false)
  is_some = written.is_some bytes index s given new w

  section_was : slice_get ss index ≡ Some s
  section_was = slice_get-get_or ss index s w.within ∙ ap (λ (x : SectionHeader). Some x) w.header

  -- ---- string tables

  no_strings : (b : List ℕ) (t : SectionHeader) → (t.kind == sht_strtab) ≡ false → strings_in b t ≡ None
  no_strings b t other = cond-false ((t.kind == sht_strtab) && is_string_table (contents b t)) (Some (contents b t)) None (and_left (t.kind == sht_strtab) (is_string_table (contents b t)) other)

  strings_kept : (i : ℕ) → option_and_then (strings_in new) (slice_get ss' i) ≡ option_and_then (strings_in bytes) (slice_get ss i)
  strings_kept i =
      ⊎_elim
      (λ same.
      ap (λ (k : ℕ). option_and_then (strings_in new) (slice_get ss' k)) same
      ∙ ap (option_and_then (strings_in new)) (slice_get-set_same ss index there w.within)
      ∙ no_strings new there is_some.2
      ∙ sym (no_strings bytes s is_some.2)
      ∙ sym (ap (option_and_then (strings_in bytes)) section_was)
      ∙ ap (λ (k : ℕ). option_and_then (strings_in bytes) (slice_get ss k)) (sym same))
      (λ other. ⊎_elim
      (λ lt.
      ap (option_and_then (strings_in new)) (slice_get-set_other ss index i there s other lt)
      ∙ ap (λ (ys : List ℕ). if ((get_or ss i s).kind == sht_strtab) && is_string_table ys then Some ys else None) (written.contents_kept bytes index s given new w i s other lt)
      ∙ sym (ap (option_and_then (strings_in bytes)) (slice_get-get_or ss i s lt)))
      (λ past.
      ap (option_and_then (strings_in new)) (slice_get_past ss' i (omega (arith, past, length-set ss index there)))
      ∙ sym (ap (option_and_then (strings_in bytes)) (slice_get_past ss i past)))
      (cases_lt i (length ss)))
      (cases_eq i index)

  string_table_kept : (i : ℕ) → string_table new ss' i ≡ string_table bytes ss i
  unfolding string_table
  string_table_kept i = ap (λ (o : Option (List ℕ)). if i == 0 then Some [] else o) (strings_kept i)

  names_index_kept : names_index h ss' ≡ names_index h ss
  unfolding names_index
  names_index_kept = ap (λ (n : ℕ). if h.section_names == 0xffff then n else h.section_names) (link-set ss index there is_some.0)

  names_kept : names_of h new ss' ≡ names_of h bytes ss
  names_kept = ap (string_table new ss') names_index_kept ∙ string_table_kept (names_index h ss)

  -- ---- symbols

  symbol_table_kept : symbol_table ss' ≡ symbol_table ss
  symbol_table_kept =
      found_set_other (find is_symbol_table) is_symbol_table (λ x. Some x) None refl (λ _ _. refl) ss index there s (ap is_symbol_table w.header ∙ is_some.3) is_some.3

  -- the symbol table is another section
  table_kept : (t : SectionHeader) → symbol_table ss ≡ Some t → contents new t ≡ contents bytes t
  table_kept t is =
      let at = found_at is_symbol_table ss t is in
      let other : at.0 ≢ index = λ same.
      let here : t ≡ s = sym at.2 ∙ ap (λ (k : ℕ). get_or ss k t) same ∙ get_or_default ss index t s w.within ∙ w.header in
      both_ways (is_symbol_table s) is_some.3 (sym (ap is_symbol_table here) ∙ at.3) in
      subst (λ (x : SectionHeader). contents new x ≡ contents bytes x) at.2 (written.contents_kept bytes index s given new w at.0 t other at.1)

  malformed_kept : (o : Option SectionHeader) → symbol_table ss ≡ o
      → option_and_then (λ t. error_when (is_malformed new ss' t) BadSymbolTable) o ≡ option_and_then (λ t. error_when (is_malformed bytes ss t) BadSymbolTable) o
  unfolding is_malformed
  malformed_kept None is = refl
  malformed_kept (Some t) is =
      ap (λ (ys : List ℕ). error_when (not (t.entry_size == symbol_len) || not (length ys % symbol_len == 0) || is_none (string_table new ss' t.link)) BadSymbolTable) (table_kept t is)
      ∙ ap (λ (o : Option (List ℕ)). error_when (not (t.entry_size == symbol_len) || not (length (contents bytes t) % symbol_len == 0) || is_none o) BadSymbolTable) (string_table_kept t.link)

  symbol_table_error_kept : symbol_table_error new ss' ≡ symbol_table_error bytes ss
  unfolding symbol_table_error
  symbol_table_error_kept =
      ap (option_and_then (λ t. error_when (is_malformed new ss' t) BadSymbolTable)) symbol_table_kept ∙ malformed_kept (symbol_table ss) refl

  entries_of : (o : Option SectionHeader) → symbol_table ss ≡ o → symbol_entries new o ≡ symbol_entries bytes o
  entries_of None is = refl
  entries_of (Some t) is = ap (λ (ys : List ℕ). first_chunks symbol_len (length ys / symbol_len) ys) (table_kept t is)

  symbols_kept : symbols_of h.order new (symbol_table ss') ≡ symbols_of h.order bytes (symbol_table ss)
  symbols_kept = ap (map (symbol h.order)) (ap (symbol_entries new) symbol_table_kept ∙ entries_of (symbol_table ss) refl)

  symbol_names_with : (o : Option SectionHeader) → symbol_names_of new ss' o ≡ symbol_names_of bytes ss o
  symbol_names_with None = refl
  symbol_names_with (Some t) = ap (λ (o : Option (List ℕ)). unwrap_or o []) (string_table_kept t.link)

  symbol_names_kept : symbol_names_of new ss' (symbol_table ss') ≡ symbol_names_of bytes ss (symbol_table ss)
  symbol_names_kept = ap (symbol_names_of new ss') symbol_table_kept ∙ symbol_names_with (symbol_table ss)

  -- ---- no errors

  -- what holds for the new header and for each other header
  each_holds : (P : SectionHeader → Type 0) → ((k : ℕ) (d : SectionHeader) → k ≢ index → k < length ss → P (get_or ss k d)) → P there
      → (k : ℕ) (d : SectionHeader) → k < length ss' → P (get_or ss' k d)
  each_holds P others this k d lt =
      let within : k < length ss = omega (arith, lt, length-set ss index there) in
      ⊎_elim
      (λ same. subst (λ (i : ℕ). P (get_or ss' i d)) (sym same) (subst P (sym (get_or-set_same ss index there d w.within)) this))
      (λ other. subst P (sym (get_or-set_other ss index k there d other)) (others k d other within))
      (cases_eq k index)

  longer : length bytes ≤ length new
  longer = omega (arith, written.length-new bytes index s given new w)

  table_error_none : table_error h new ≡ None
  table_error_none =
      let fits = written.table bytes index s given new w in
      fits_table h new (record { behind = fits.behind; within = omega (arith, fits.within, written.table_end_same bytes index s given new w, longer) })

  sections_fit_new : SectionsFit h new ss'
  sections_fit_new =
      let old = written.old_sections bytes index s given new w in
      let end = written.table_end_same bytes index s given new w in
      record {
        within = each_holds (λ t. is_past_end (length new) t ≡ false)
            (λ k d other lt. past_not (length new) (get_or ss k d) (λ some. omega (arith, longer, not_past (length bytes) (get_or ss k d) (old.within k d lt) some)))
            (past_not (length new) there (λ _. omega (arith, written.length-new bytes index s given new w)));
        clear = each_holds (λ t. is_over_headers h.section_headers (table_end h new) t ≡ false)
            (λ k d other lt. ap (λ (n : ℕ). is_over_headers h.section_headers n (get_or ss k d)) end ∙ old.clear k d lt)
            (ap (λ (n : ℕ). is_over_headers h.section_headers n there) end
            ∙ over_not h.section_headers (table_end h bytes) there (written.at_clear bytes index s given new w));
      }

  name_error_with : (names : Option (List ℕ)) → name_error names ss ≡ None → name_error names ss' ≡ None
  unfolding name_error
  name_error_with names none =
      let nameless : SectionHeader → Bool = λ t. not (is_name_offset (unwrap_or names []) t.name) in
      let errors = all_none (error_when (is_none names) BadNameTable ∷ option_map BadSectionName (position nameless ss) ∷ []) none in
      let each = none_passes nameless ss s (map_none BadSectionName (position nameless ss) errors.1.0) in
      let all = each_holds (λ t. nameless t ≡ false) (λ k d other lt. ap nameless (get_or_default ss k d s lt) ∙ each k lt) (sym (ap nameless w.header) ∙ each index w.within) in
      none_comes (error_when (is_none names) BadNameTable ∷ option_map BadSectionName (position nameless ss') ∷ [])
      (errors.0, (ap (option_map BadSectionName) (position-none nameless ss' s (λ k lt. all k s lt)), tt))

  no_error : parse_error new ≡ None
  no_error =
      let old = no_errors bytes w.no_error in
      sym (by_parts new h ss' (sym (written.header_same bytes index s given new w)) (sym (written.sections_same bytes index s given new w)))
      ∙ none_comes (errors_of new h ss') (
        ap identification_error (written.front_same bytes index s given new w) ∙ old.0,
        (
          old.1.0,
          (
            table_error_none,
            (
              fit_sections h new ss' s sections_fit_new,
              (
                name_error_with (names_of h new ss') (ap (λ (names : Option (List ℕ)). name_error names ss) names_kept ∙ old.1.1.1.1.0),
                (
                  symbol_table_error_kept ∙ old.1.1.1.1.1.0,
                  (
                    ap (λ (names : List ℕ). symbol_error names (symbols_of h.order new (symbol_table ss'))) symbol_names_kept
                        ∙ ap (symbol_error (symbol_names_of bytes ss (symbol_table ss))) symbols_kept ∙ old.1.1.1.1.1.1.0,
                    tt,
                  ),
                ),
              ),
            ),
          ),
        ),
      )

  abbrev pub new_object : Object
  new_object = record { header = h; sections = ss'; bytes = new }

  pub is_object : IsObject new new_object
  is_object = record {
    no_error = no_error;
    object = λ i. record { header = sym (written.header_same bytes index s given new w) i; sections = sym (written.sections_same bytes index s given new w) i; bytes = new };
  }

  pub replaces : ReplacesSection (object_of bytes) index s given new_object
  replaces = record {
    header = refl;
    sections = refl;
    replaced = written.contents_new bytes index s given new w;
    others = λ other t apart is.
        let lt : other < length ss = slice_get_within ss other t is in
        subst (λ (x : SectionHeader). contents new x ≡ contents bytes x) (get_or_from_slice_get ss other t t is) (written.contents_kept bytes index s given new w other t apart lt);
    names = names_kept;
    symbols = symbols_kept;
    symbol_names = symbol_names_kept;
    file_len = written.length-new bytes index s given new w;
    gap = written.gap_is bytes index s given new w;
    bytes = written.keeps bytes index s given new w;
  }

-- These bytes were made from an object, with other bytes in the section of an index.
pub record IsRewrite (o : Object) (index : ℕ) (s : SectionHeader) (given file : List ℕ) : Type 0 where
  pub valid : IsObject o.bytes o
  pub section : slice_get o.sections index ≡ Some s
  pub replaceable : is_replaceable index s ≡ true
  pub end : place o index s (length given) + length given < 2 ^ 64
  pub file_is : file ≡ file_with_section o.header o.bytes index (place o index s (length given)) given

written_of : (bytes : List ℕ) (index : ℕ) (s : SectionHeader) (given file : List ℕ) → IsRewrite (object_of bytes) index s given file → IsWritten bytes index s given file
written_of bytes index s given file r = record {
  no_error = r.valid.no_error;
  within = slice_get_within (headers_in bytes) index s r.section;
  header = get_or_from_slice_get (headers_in bytes) index s s r.section;
  replaceable = r.replaceable;
  spare = max (length bytes) (place (object_of bytes) index s (length given) + length given) - length bytes;
  room = omega arith;
  small = omega (arith, r.end);
  short = omega (arith, r.end);
  new_is = r.file_is;
}

pub has_replaced : (o : Object) (index : ℕ) (s : SectionHeader) (given file : List ℕ) → IsRewrite o index s given file → HasReplaced o index given file
has_replaced o index s given file r =
    let same : o ≡ object_of o.bytes = r.valid.object in
    let at = subst (λ (x : Object). IsRewrite x index s given file) same r in
    let w = written_of o.bytes index s given file at in
    subst (λ (x : Object). HasReplaced x index given file) (sym same)
    (s, at.section, (new_object o.bytes index s given file w, is_object o.bytes index s given file w, replaces o.bytes index s given file w))

-- the header of a section is in the file
pub header_within : (o : Object) (index : ℕ) (s : SectionHeader) → IsObject o.bytes o → slice_get o.sections index ≡ Some s
    → o.header.section_headers + file_header_len * index + 40 ≤ length o.bytes
header_within o index s valid is =
    let h = file_header o.bytes in
    let lt = slice_get_within o.sections index s is in
    let sections : length o.sections ≡ length (headers_in o.bytes) = ap (λ (x : Object). length x.sections) valid.object in
    let count = written.length-sections o.bytes in
    let fits = table_fits h o.bytes (no_errors o.bytes valid.no_error).1.1.0 (omega (arith, lt, sections, count)) in
    let place : o.header.section_headers ≡ h.section_headers = ap (λ (x : Object). x.header.section_headers) valid.object in
    omega (arith, lt, sections, count, fits.within, place)
