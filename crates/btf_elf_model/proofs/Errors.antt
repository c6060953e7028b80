-- The first error of bytes, by the tests in order.
use Rattle.std.proofs.Common.{◌≡◌, ◌⊎◌, ◌∙◌, ℕ, Bool, true, false, List, [], ◌∷◌, Option, None, Some, refl, ap, inl, inr}
use Rattle.std.specs.Prelude.{option_map}
use Rattle.btf_elf_model.specs.Header.{front, file_header}
use Rattle.btf_elf_model.specs.Section.{headers_in}
use Rattle.btf_elf_model.specs.Symbols.{symbol_table, symbols_of, symbol_names_of}
use Rattle.btf_elf_model.specs.Object.{names_of, first_error, error_when, identification_error, header_error, table_error, section_error, name_error, symbol_table_error, symbol_error, parse_error}
use Rattle.btf_elf_model.specs.declared.file_header.FileHeader.{FileHeader}
use Rattle.btf_elf_model.specs.declared.section_header.SectionHeader.{SectionHeader}
use Rattle.btf_elf_model.specs.declared.error.ParseError.{ParseError}

-- The first error is after places without an error.
abbrev pub Comes : List (Option ParseError) → ParseError → Type 0
Comes [] e = ⊥
Comes (o ∷ more) e = (o ≡ Some e) ⊎ ((o ≡ None) × Comes more e)

-- No place has an error.
abbrev pub NoneComes : List (Option ParseError) → Type 0
NoneComes [] = Unit {0}
NoneComes (o ∷ more) = (o ≡ None) × NoneComes more

pub first_comes : (errors : List (Option ParseError)) (e : ParseError) → Comes errors e → first_error errors ≡ Some e
first_comes [] e h = absurd h
first_comes (o ∷ more) e (inl is) = ap (λ (x : Option ParseError). first_error (x ∷ more)) is
first_comes (o ∷ more) e (inr p) = ap (λ (x : Option ParseError). first_error (x ∷ more)) p.0 ∙ first_comes more e p.1

pub none_comes : (errors : List (Option ParseError)) → NoneComes errors → first_error errors ≡ None
none_comes [] h = refl
none_comes (o ∷ more) p = ap (λ (x : Option ParseError). first_error (x ∷ more)) p.0 ∙ none_comes more p.1

-- the errors of bytes whose file header and section headers are these
abbrev pub errors_of : List ℕ → FileHeader → List SectionHeader → List (Option ParseError)
errors_of bytes h sections =
    identification_error (front bytes)
    ∷ header_error h
    ∷ table_error h bytes
    ∷ section_error h bytes sections
    ∷ name_error (names_of h bytes sections) sections
    ∷ symbol_table_error bytes sections
    ∷ symbol_error (symbol_names_of bytes sections (symbol_table sections)) (symbols_of h.order bytes (symbol_table sections))
    ∷ []

pub by_parts : (bytes : List ℕ) (h : FileHeader) (sections : List SectionHeader) → h ≡ file_header bytes → sections ≡ headers_in bytes
    → first_error (errors_of bytes h sections) ≡ parse_error bytes
unfolding parse_error
by_parts bytes h sections p q =
    ap (λ (x : FileHeader). first_error (errors_of bytes x sections)) p
    ∙ ap (λ (xs : List SectionHeader). first_error (errors_of bytes (file_header bytes) xs)) q

pub all_none : (errors : List (Option ParseError)) → first_error errors ≡ None → NoneComes errors
all_none [] none = tt
all_none (None ∷ more) none = (refl, all_none more none)
all_none (Some e ∷ more) none = cc

pub no_errors : (bytes : List ℕ) → parse_error bytes ≡ None → NoneComes (errors_of bytes (file_header bytes) (headers_in bytes))
unfolding parse_error
no_errors bytes none = all_none (errors_of bytes (file_header bytes) (headers_in bytes)) none

pub when_none : (b : Bool) (e : ParseError) → error_when b e ≡ None → b ≡ false
when_none true e is = cc
when_none false e is = refl

pub map_none : {X Y : Type 0} (f : X → Y) (o : Option X) → option_map f o ≡ None → o ≡ None
map_none f None is = refl
map_none f (Some x) is = cc
