-- What holds for bytes without errors.
use Rattle.std.proofs.Common.{◌≡◌, ◌∙◌, ◌⊎◌, ℕ, ◌+◌, ◌-◌, ◌<◌, ◌≤◌, Bool, true, false, List, [], ◌∷◌, length, take, drop, get_or, Option, None, Some, refl, sym, ap, subst, arith, inl, inr, ⊎_elim}
use Rattle.std.specs.Prelude.{nat_lt, ◌%◌, ◌==◌, ◌&&◌, ◌||◌, not, position, option_map, slice_get, slice_index, unwrap_or, is_none}
use Rattle.std.specs.List.{position_or_len}
use Rattle.std.specs.Option.{option_and_then}
use Rattle.std.proofs.lemmas.Bool.{ltb-true, eqb-true, and_parts, or_cases, or_parts, cond_both, cases_lt, not-false, both_ways, eq-eqb}
use Rattle.std.proofs.lemmas.List.{length-take-le, length-drop, get_or-drop}
use Rattle.std.proofs.lemmas.List.Sums.{fails_before_first, passes_at_first}
use Rattle.std.proofs.lemmas.Option.{slice_get-get_or, slice_get_within, get_or_from_slice_get}
use Rattle.btf_elf_model.specs.Header.{file_header_len, file_header}
use Rattle.btf_elf_model.specs.Section.{table_end, headers_in, has_bytes, is_past_end, is_over_headers, contents, ends_name, is_string_table, is_name_offset, string_from, strings_in, string_table}
use Rattle.btf_elf_model.specs.Symbols.{is_malformed, symbol_table, symbol_names_of, symbol_len}
use Rattle.btf_elf_model.specs.Object.{Object, IsObject, name_table, symbols, symbol_names, error_when, name_error, symbol_table_error, symbol_error}
use Rattle.btf_elf_model.specs.Laws.{Ends}
use Rattle.btf_elf_model.specs.declared.section_header.SectionHeader.{SectionHeader}
use Rattle.btf_elf_model.specs.declared.symbol.Symbol.{Symbol}
use Rattle.btf_elf_model.specs.declared.error.ParseError.TheVariants.{BadNameTable, BadSectionName, BadSymbolTable, BadSymbolName}
use Rattle.btf_elf_model.proofs.Errors.{no_errors, all_none, when_none, map_none}
use Rattle.btf_elf_model.proofs.Tests.{none_passes, not_past, not_over, SectionsFit, sections_fit}

-- ---- sections

fit : (bytes : List ℕ) (o : Object) → IsObject bytes o → SectionsFit o.header bytes o.sections
fit bytes o is =
    subst (λ (x : Object). SectionsFit x.header bytes x.sections) (sym is.object)
    (sections_fit (file_header bytes) bytes (headers_in bytes) (no_errors bytes is.no_error).1.1.1.0)

pub within : (bytes : List ℕ) (o : Object) (index : ℕ) (s : SectionHeader) → IsObject bytes o → slice_get o.sections index ≡ Some s → has_bytes s ≡ true
    → s.offset + s.size ≤ length bytes
within bytes o index s is at some =
    let here = get_or_from_slice_get o.sections index s s at in
    let test = (fit bytes o is).within index s (slice_get_within o.sections index s at) in
    not_past (length bytes) s (sym (ap (λ (t : SectionHeader). is_past_end (length bytes) t) here) ∙ test) some

pub apart : (bytes : List ℕ) (o : Object) (index : ℕ) (s : SectionHeader) → IsObject bytes o → slice_get o.sections index ≡ Some s → has_bytes s ≡ true → 0 < s.size
    → (file_header_len ≤ s.offset) × ((table_end o.header bytes ≤ s.offset) ⊎ (s.offset + s.size ≤ o.header.section_headers))
apart bytes o index s is at some size =
    let here = get_or_from_slice_get o.sections index s s at in
    let test = (fit bytes o is).clear index s (slice_get_within o.sections index s at) in
    not_over o.header.section_headers (table_end o.header bytes) s (sym (ap (λ (t : SectionHeader). is_over_headers o.header.section_headers (table_end o.header bytes) t) here) ∙ test) some size

-- ---- names

-- the first element that passes the test is not after one that passes
first_not_after : {X : Type 0} (p : X → Bool) (xs : List X) (k : ℕ) (d : X) → p (get_or xs k d) ≡ true → position_or_len p xs ≤ k
first_not_after p xs k d passes =
    ⊎_elim (λ lt. absurd (both_ways (p (get_or xs k d)) (fails_before_first p xs k d lt) passes)) (λ le. le) (cases_lt k (position_or_len p xs))

-- in a table that ends with a zero byte each name ends
name_ends : (strings : List ℕ) (offset : ℕ) → offset < length strings → get_or strings (length strings - 1) 0 ≡ 0 → slice_get strings (offset + length (string_from strings offset)) ≡ Some 0
unfolding string_from
name_ends strings offset lt last =
    let rest = drop offset strings in
    let len : length rest ≡ length strings - offset = length-drop offset strings in
    let split : offset + (length rest - 1) ≡ length strings - 1 = omega (arith, len, lt) in
    let zero_last : ends_name (get_or rest (length rest - 1) 0) ≡ true =
    eq-eqb (get_or rest (length rest - 1) 0) 0 (get_or-drop offset strings (length rest - 1) 0 ∙ ap (λ (n : ℕ). get_or strings n 0) split ∙ last) in
    let first = position_or_len ends_name rest in
    let before : first ≤ length rest - 1 = first_not_after ends_name rest (length rest - 1) 0 zero_last in
    let inside : first < length rest = omega (arith, before, len, lt) in
    let zero_there : get_or rest first 0 ≡ 0 = eqb-true (get_or rest first 0) 0 (passes_at_first ends_name rest 0 inside) in
    let place : length (take first rest) ≡ first = length-take-le first rest (omega (arith, inside)) in
    ap (λ (n : ℕ). slice_get strings (offset + n)) place
    ∙ slice_get-get_or strings (offset + first) 0 (omega (arith, inside, len))
    ∙ ap (λ (n : ℕ). Some n) (sym (get_or-drop offset strings first 0) ∙ zero_there)

empty_is : (strings : List ℕ) → length strings ≡ 0 → strings ≡ []
empty_is [] none = refl
empty_is (s ∷ ss) none = absurd (omega (arith, none))

-- in a string table a name that begins in it ends
ends : (strings : List ℕ) (offset : ℕ) → is_string_table strings ≡ true → is_name_offset strings offset ≡ true → Ends strings offset
unfolding is_string_table
ends strings offset table name =
    ⊎_elim
    (λ none.
    let empty : length strings ≡ 0 = eqb-true (length strings) 0 none in
    inl (empty_is strings empty, ⊎_elim (λ zero_is. eqb-true offset 0 zero_is) (λ lt. absurd (omega (arith, ltb-true offset (length strings) lt, empty))) (or_cases (offset == 0) (nat_lt offset (length strings)) name)))
    (λ both.
    let parts = and_parts (ends_name (slice_index strings 0)) (ends_name (slice_index strings (length strings - 1))) both in
    ⊎_elim
    (λ empty. inl (empty, ⊎_elim (λ zero_is. eqb-true offset 0 zero_is) (λ lt. absurd (omega (arith, ltb-true offset (length strings) lt, ap length empty))) (or_cases (offset == 0) (nat_lt offset (length strings)) name)))
    (λ some. inr (name_ends strings offset
    (⊎_elim (λ zero_is. omega (arith, some, eqb-true offset 0 zero_is)) (λ lt. ltb-true offset (length strings) lt) (or_cases (offset == 0) (nat_lt offset (length strings)) name))
    (eqb-true (slice_index strings (length strings - 1)) 0 parts.1)))
    (none_or_some strings))
    (or_cases (length strings == 0) (ends_name (slice_index strings 0) && ends_name (slice_index strings (length strings - 1))) table)
  where
    none_or_some : (xs : List ℕ) → (xs ≡ []) ⊎ (0 < length xs)
    none_or_some [] = inl refl
    none_or_some (x ∷ xs) = inr (omega arith)

-- the string tables that are found are string tables
in_section : (bytes : List ℕ) (s : SectionHeader) (strings : List ℕ) → strings_in bytes s ≡ Some strings → is_string_table strings ≡ true
in_section bytes s strings =
    cond_both ((s.kind == 3) && is_string_table (contents bytes s)) (Some (contents bytes s)) None (λ o. o ≡ Some strings → is_string_table strings ≡ true)
    (λ test is. let same : contents bytes s ≡ strings = cc in sym (ap is_string_table same) ∙ (and_parts (s.kind == 3) (is_string_table (contents bytes s)) test).1)
    (λ _ is. cc)

found_table : (bytes : List ℕ) (o : Option SectionHeader) (strings : List ℕ) → option_and_then (strings_in bytes) o ≡ Some strings → is_string_table strings ≡ true
found_table bytes None strings is = cc
found_table bytes (Some s) strings is = in_section bytes s strings is

is_table : (bytes : List ℕ) (sections : List SectionHeader) (index : ℕ) (strings : List ℕ) → string_table bytes sections index ≡ Some strings → is_string_table strings ≡ true
unfolding string_table is_string_table
is_table bytes sections index strings =
    cond_both (index == 0) (Some []) (option_and_then (strings_in bytes) (slice_get sections index)) (λ o. o ≡ Some strings → is_string_table strings ≡ true)
    (λ _ is. let same : [] ≡ strings = cc in ap is_string_table (sym same))
    (λ _ is. found_table bytes (slice_get sections index) strings is)

-- the names of the sections
names_end : (names : Option (List ℕ)) (sections : List SectionHeader) → name_error names sections ≡ None → ((strings : List ℕ) → names ≡ Some strings → is_string_table strings ≡ true)
    → (index : ℕ) (s : SectionHeader) → slice_get sections index ≡ Some s → Ends (unwrap_or names []) s.name
unfolding name_error
names_end None sections none table index s at = cc
names_end (Some strings) sections none table index s at =
    let errors = all_none (error_when false BadNameTable ∷ option_map BadSectionName (position (λ t. not (is_name_offset strings t.name)) sections) ∷ []) none in
    let each = none_passes (λ (t : SectionHeader). not (is_name_offset strings t.name)) sections s (map_none BadSectionName (position (λ t. not (is_name_offset strings t.name)) sections) errors.1.0) index (slice_get_within sections index s at) in
    let here = get_or_from_slice_get sections index s s at in
    ends strings s.name (table strings refl) (ap (λ (t : SectionHeader). is_name_offset strings t.name) (sym here) ∙ not-false (is_name_offset strings (get_or sections index s).name) each)

pub section_names_end : (bytes : List ℕ) (o : Object) (index : ℕ) (s : SectionHeader) → IsObject bytes o → slice_get o.sections index ≡ Some s → Ends (unwrap_or (name_table o) []) s.name
section_names_end bytes o index s is at =
    names_end (name_table o) o.sections
    (ap (λ (x : Object). name_error (name_table x) x.sections) is.object ∙ (no_errors bytes is.no_error).1.1.1.1.0)
    (λ strings found. is_table o.bytes o.sections _ strings found)
    index s at

-- the names of the symbols
symbols_end : (names : List ℕ) (all : List Symbol) → symbol_error names all ≡ None → is_string_table names ≡ true → (index : ℕ) (s : Symbol) → slice_get all index ≡ Some s → Ends names s.name
unfolding symbol_error
symbols_end names all none table index s at =
    let each = none_passes (λ (t : Symbol). not (is_name_offset names t.name)) all s (map_none BadSymbolName (position (λ t. not (is_name_offset names t.name)) all) none) index (slice_get_within all index s at) in
    let here = get_or_from_slice_get all index s s at in
    ends names s.name table (ap (λ (t : Symbol). is_name_offset names t.name) (sym here) ∙ not-false (is_name_offset names (get_or all index s).name) each)

-- the string table of a symbol table that is not malformed
symbol_strings : (bytes : List ℕ) (sections : List SectionHeader) (table : Option SectionHeader)
    → option_and_then (λ s. error_when (is_malformed bytes sections s) BadSymbolTable) table ≡ None → is_string_table (symbol_names_of bytes sections table) ≡ true
unfolding is_malformed is_string_table
symbol_strings bytes sections None none = refl
symbol_strings bytes sections (Some s) none =
    let sound = when_none (not (s.entry_size == symbol_len) || not (length (contents bytes s) % symbol_len == 0) || is_none (string_table bytes sections s.link)) BadSymbolTable none in
    let there = or_parts (not (s.entry_size == symbol_len) || not (length (contents bytes s) % symbol_len == 0)) (is_none (string_table bytes sections s.link)) sound in
    by_table (string_table bytes sections s.link) refl there.1
  where
    by_table : (o : Option (List ℕ)) → string_table bytes sections s.link ≡ o → is_none o ≡ false → is_string_table (unwrap_or o []) ≡ true
    by_table None is test = cc
    by_table (Some strings) is test = is_table bytes sections s.link strings is

pub symbol_names_end : (bytes : List ℕ) (o : Object) (index : ℕ) (s : Symbol) → IsObject bytes o → slice_get (symbols o) index ≡ Some s → Ends (symbol_names o) s.name
unfolding symbol_table_error
symbol_names_end bytes o index s is at =
    let old = no_errors bytes is.no_error in
    symbols_end (symbol_names o) (symbols o)
    (ap (λ (x : Object). symbol_error (symbol_names x) (symbols x)) is.object ∙ old.1.1.1.1.1.1.0)
    (symbol_strings o.bytes o.sections (symbol_table o.sections)
    (ap (λ (x : Object). option_and_then (λ t. error_when (is_malformed x.bytes x.sections t) BadSymbolTable) (symbol_table x.sections)) is.object ∙ old.1.1.1.1.1.0))
    index s at
