-- What the tests of sections and tables mean.
use Rattle.std.proofs.Common.{◌≡◌, ◌≢◌, ◌∙◌, ◌⊎◌, ℕ, ◌+◌, ◌<◌, ◌≤◌, Bool, true, false, cond, List, [], ◌∷◌, length, get_or, Option, None, Some, sym, ap, arith, inl, inr, ⊎_elim}
use Rattle.std.specs.Prelude.{nat_lt, ◌==◌, ◌&&◌, ◌||◌, not, position, option_map}
use Rattle.std.specs.List.{position_or_len}
use Rattle.std.proofs.lemmas.Bool.{ltb-false, lt-ltb, le-ltb, eq-eqb, eqb-true, and_cases, and_left, and_right, or_parts, or_from, cases_Bool, both_ways, cond-true, cases_lt, not-false}
use Rattle.std.proofs.lemmas.List.Sums.{position_or_len_is, fails_before_first}
use Rattle.btf_elf_model.specs.Header.{file_header_len}
use Rattle.btf_elf_model.specs.Section.{section_count, table_end, has_bytes, is_past_end, is_over_headers}
use Rattle.btf_elf_model.specs.Object.{first_error, error_when, table_error, section_error}
use Rattle.btf_elf_model.specs.declared.file_header.FileHeader.{FileHeader}
use Rattle.btf_elf_model.specs.declared.section_header.SectionHeader.{SectionHeader}
use Rattle.btf_elf_model.specs.declared.error.ParseError.TheVariants.{SectionTableOutOfRange, SectionOutOfRange, SectionOverHeaders}
use Rattle.btf_elf_model.proofs.Errors.{all_none, when_none, map_none}

-- no place passes the test
pub none_passes : {X : Type 0} (p : X → Bool) (xs : List X) (d : X) → position p xs ≡ None → (k : ℕ) → k < length xs → p (get_or xs k d) ≡ false
none_passes p xs d none k lt =
    ⊎_elim
    (λ before. let some : Some (position_or_len p xs) ≡ None = sym (cond-true (nat_lt (position_or_len p xs) (length xs)) (Some (position_or_len p xs)) None (lt-ltb _ _ before)) ∙ none in cc)
    (λ end. fails_before_first p xs k d (omega (arith, lt, end)))
    (cases_lt (position_or_len p xs) (length xs))

pub position-none : {X : Type 0} (p : X → Bool) (xs : List X) (d : X) → ((k : ℕ) → k < length xs → p (get_or xs k d) ≡ false) → position p xs ≡ None
position-none p xs d none =
    let end : position_or_len p xs ≡ length xs = position_or_len_is p xs (length xs) d (omega arith) none (λ lt. absurd (omega (arith, lt))) in
    ap (λ (n : ℕ). cond (nat_lt n (length xs)) (Some n) None) end ∙ ap (λ b. cond b (Some (length xs)) None) (le-ltb (length xs) (length xs) (omega arith))

-- ---- tests of a section

pub not_past : (len : ℕ) (s : SectionHeader) → is_past_end len s ≡ false → has_bytes s ≡ true → s.offset + s.size ≤ len
unfolding is_past_end
not_past len s test some =
    ⊎_elim (λ none. absurd (both_ways (has_bytes s) none some)) (λ le. ltb-false len (s.offset + s.size) le)
    (and_cases (has_bytes s) (nat_lt len (s.offset + s.size)) test)

pub past_not : (len : ℕ) (s : SectionHeader) → (has_bytes s ≡ true → s.offset + s.size ≤ len) → is_past_end len s ≡ false
unfolding is_past_end
past_not len s le =
    ⊎_elim (λ some. and_right (has_bytes s) (nat_lt len (s.offset + s.size)) (le-ltb len (s.offset + s.size) (le some)))
    (λ none. and_left (has_bytes s) (nat_lt len (s.offset + s.size)) none)
    (cases_Bool (has_bytes s))

-- A section with bytes is after the file header, and before or after the section header table.
abbrev pub IsClear : ℕ → ℕ → ℕ → ℕ → Type 0
IsClear table end offset size = 0 < size → (file_header_len ≤ offset) × ((end ≤ offset) ⊎ (offset + size ≤ table))

over : ℕ → ℕ → ℕ → ℕ → Bool
over table end offset size = nat_lt offset file_header_len || (nat_lt offset end && nat_lt table (offset + size))

is_clear_of : (table end offset size : ℕ) → over table end offset size ≡ false → (file_header_len ≤ offset) × ((end ≤ offset) ⊎ (offset + size ≤ table))
unfolding over
is_clear_of table end offset size none =
    let parts = or_parts (nat_lt offset file_header_len) (nat_lt offset end && nat_lt table (offset + size)) none in (
      ltb-false offset file_header_len parts.0,
      ⊎_elim (λ e. inl (ltb-false offset end e)) (λ e. inr (ltb-false table (offset + size) e)) (and_cases (nat_lt offset end) (nat_lt table (offset + size)) parts.1),
    )

over_clear : (table end offset size : ℕ) → (file_header_len ≤ offset) × ((end ≤ offset) ⊎ (offset + size ≤ table)) → over table end offset size ≡ false
unfolding over
over_clear table end offset size p =
    or_from (nat_lt offset file_header_len) (nat_lt offset end && nat_lt table (offset + size)) (le-ltb offset file_header_len p.0)
    (⊎_elim (λ le. and_left (nat_lt offset end) (nat_lt table (offset + size)) (le-ltb offset end le))
    (λ le. and_right (nat_lt offset end) (nat_lt table (offset + size)) (le-ltb table (offset + size) le)) p.1)

pub not_over : (table end : ℕ) (s : SectionHeader) → is_over_headers table end s ≡ false → has_bytes s ≡ true → IsClear table end s.offset s.size
unfolding is_over_headers over
not_over table end s test some lt =
    ⊎_elim
    (λ none. absurd (⊎_elim (λ e. both_ways (has_bytes s) e some) (λ e. both_ways (nat_lt 0 s.size) e (lt-ltb 0 s.size lt)) (and_cases (has_bytes s) (nat_lt 0 s.size) none)))
    (λ clear. is_clear_of table end s.offset s.size clear)
    (and_cases (has_bytes s && nat_lt 0 s.size) (over table end s.offset s.size) test)

pub over_not : (table end : ℕ) (s : SectionHeader) → IsClear table end s.offset s.size → is_over_headers table end s ≡ false
unfolding is_over_headers over
over_not table end s clear =
    ⊎_elim
    (λ lt. and_right (has_bytes s && nat_lt 0 s.size) (over table end s.offset s.size) (over_clear table end s.offset s.size (clear lt)))
    (λ le. and_left (has_bytes s && nat_lt 0 s.size) (over table end s.offset s.size) (and_right (has_bytes s) (nat_lt 0 s.size) (le-ltb 0 s.size le)))
    (cases_lt 0 s.size)

-- ---- tests of the table and of all sections

-- where the table of section headers is
pub record TableFits (h : FileHeader) (bytes : List ℕ) : Type 0 where
  pub behind : file_header_len ≤ h.section_headers
  pub within : table_end h bytes ≤ length bytes

has_table : (h : FileHeader) (bytes : List ℕ) → 0 < section_count h bytes → h.section_headers ≢ 0
unfolding section_count
has_table h bytes some none_is =
    let none : section_count h bytes ≡ 0 = cond-true (h.section_headers == 0) 0 _ (eq-eqb h.section_headers 0 none_is) in
    omega (arith, some, none)

pub table_fits : (h : FileHeader) (bytes : List ℕ) → table_error h bytes ≡ None → 0 < section_count h bytes → TableFits h bytes
unfolding table_error
table_fits h bytes none some =
    let test = when_none (not (h.section_headers == 0) && (nat_lt h.section_headers file_header_len || nat_lt (length bytes) (table_end h bytes))) SectionTableOutOfRange none in
    ⊎_elim
    (λ e. absurd (eqb-false-of h.section_headers (has_table h bytes some) (not-false (h.section_headers == 0) e)))
    (λ e. let parts = or_parts (nat_lt h.section_headers file_header_len) (nat_lt (length bytes) (table_end h bytes)) e in
    record { behind = ltb-false h.section_headers file_header_len parts.0; within = ltb-false (length bytes) (table_end h bytes) parts.1 })
    (and_cases (not (h.section_headers == 0)) (nat_lt h.section_headers file_header_len || nat_lt (length bytes) (table_end h bytes)) test)
  where
    eqb-false-of : (n : ℕ) → n ≢ 0 → (n == 0) ≡ true → ⊥
    eqb-false-of n ne is = ne (eqb-true n 0 is)

pub fits_table : (h : FileHeader) (bytes : List ℕ) → TableFits h bytes → table_error h bytes ≡ None
unfolding table_error
fits_table h bytes f =
    let inside : (nat_lt h.section_headers file_header_len || nat_lt (length bytes) (table_end h bytes)) ≡ false =
    or_from (nat_lt h.section_headers file_header_len) (nat_lt (length bytes) (table_end h bytes)) (le-ltb h.section_headers file_header_len f.behind) (le-ltb (length bytes) (table_end h bytes) f.within) in
    ap (λ (b : Bool). error_when b SectionTableOutOfRange) (and_right (not (h.section_headers == 0)) _ inside)

-- the tests of each section
pub record SectionsFit (h : FileHeader) (bytes : List ℕ) (sections : List SectionHeader) : Type 0 where
  pub within : (k : ℕ) (d : SectionHeader) → k < length sections → is_past_end (length bytes) (get_or sections k d) ≡ false
  pub clear : (k : ℕ) (d : SectionHeader) → k < length sections → is_over_headers h.section_headers (table_end h bytes) (get_or sections k d) ≡ false

pub sections_fit : (h : FileHeader) (bytes : List ℕ) (sections : List SectionHeader) → section_error h bytes sections ≡ None → SectionsFit h bytes sections
unfolding section_error
sections_fit h bytes sections none =
    let errors = all_none (option_map SectionOutOfRange (position (is_past_end (length bytes)) sections)
    ∷ option_map SectionOverHeaders (position (is_over_headers h.section_headers (table_end h bytes)) sections) ∷ []) none in
    record {
      within = λ k d lt. none_passes (is_past_end (length bytes)) sections d (map_none SectionOutOfRange _ errors.0) k lt;
      clear = λ k d lt. none_passes (is_over_headers h.section_headers (table_end h bytes)) sections d (map_none SectionOverHeaders _ errors.1.0) k lt;
    }

pub fit_sections : (h : FileHeader) (bytes : List ℕ) (sections : List SectionHeader) (d : SectionHeader) → SectionsFit h bytes sections → section_error h bytes sections ≡ None
unfolding section_error
fit_sections h bytes sections d f =
    ap (λ (o : Option ℕ). first_error (option_map SectionOutOfRange o ∷ option_map SectionOverHeaders (position (is_over_headers h.section_headers (table_end h bytes)) sections) ∷ []))
    (position-none (is_past_end (length bytes)) sections d (λ k lt. f.within k d lt))
    ∙ ap (λ (o : Option ℕ). first_error (option_map SectionOverHeaders o ∷ []))
    (position-none (is_over_headers h.section_headers (table_end h bytes)) sections d (λ k lt. f.clear k d lt))
