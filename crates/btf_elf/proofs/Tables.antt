-- The table of section headers.
use Rattle.std.proofs.Common.{◌≡◌, ◌≢◌, ◌∙◌, ℕ, zero, suc, ◌-◌, ◌/◌, ◌<◌, ◌≤◌, Bool, List, ◌∷◌, length, take, drop, get_or, refl, sym, ap, arith, inr, ⊎_elim}
use Rattle.std.specs.Prelude.{if◌then◌else◌}
use Rattle.std.specs.Simd.{first_chunks}
use Rattle.std.proofs.lemmas.Bool.{ne_eqb}
use Rattle.btf_elf_model.specs.Header.{file_header_len}
use Rattle.btf_elf_model.specs.Section.{section_count}
use Rattle.btf_elf_model.specs.declared.file_header.FileHeader.{FileHeader}
use Rattle.btf_elf.specs.Table.{section_header_bytes, count_by_first, IsTableOutside}

-- the first of more chunks
pub take-first_chunks : {X : Type 0} (n c m : ℕ) (xs : List X) → c ≤ m → take c (first_chunks n m xs) ≡ first_chunks n c xs
take-first_chunks n zero m xs le = refl
take-first_chunks n (suc c) zero xs le = absurd (omega arith)
take-first_chunks n (suc c) (suc m) xs le = ap (λ ys. take n xs ∷ ys) (take-first_chunks n c m (drop n xs) (omega arith))

-- the first chunk
first_of_chunks : (n m : ℕ) (xs first : List ℕ) → 0 < m → first ≡ get_or (first_chunks n m xs) 0 first → first ≡ take n xs
first_of_chunks n zero xs first some is = absurd (omega arith)
first_of_chunks n (suc m) xs first some is = is

-- the number of sections, if there is a table
count_is : (h : FileHeader) (bytes : List ℕ) → h.section_headers ≢ 0
    → section_count h bytes ≡ count_by_first h (take file_header_len (drop h.section_headers bytes))
unfolding section_count count_by_first
count_is h bytes some =
    ap (λ (b : Bool). if b then 0 else count_by_first h (take file_header_len (drop h.section_headers bytes))) (ne_eqb h.section_headers 0 some)

-- What a table of complete entries from e_shoff on gives: the first entry and the stated count.
pub record IsFound (h : FileHeader) (bytes : List ℕ) (entries : List (List ℕ)) (first : List ℕ) (count : ℕ) : Type 0 where
  pub some : h.section_headers ≢ 0
  pub after : file_header_len ≤ h.section_headers
  pub within : h.section_headers ≤ length bytes
  pub entries_are : entries ≡ first_chunks file_header_len ((length bytes - h.section_headers) / 64) (drop h.section_headers bytes)
  pub count_of_entries : length entries ≡ (length bytes - h.section_headers) / 64
  pub entry : 0 < length entries
  pub first_is : first ≡ get_or entries 0 first
  pub count_is : count ≡ count_by_first h first

pub stated : (h : FileHeader) (bytes : List ℕ) (entries : List (List ℕ)) (first : List ℕ) (count : ℕ)
    → IsFound h bytes entries first count → count ≡ section_count h bytes
stated h bytes entries first count f =
    let at : first ≡ take file_header_len (drop h.section_headers bytes) =
    first_of_chunks file_header_len ((length bytes - h.section_headers) / 64) (drop h.section_headers bytes) first (omega (arith, f.entry, f.count_of_entries))
    (f.first_is ∙ ap (λ (es : List (List ℕ)). get_or es 0 first) f.entries_are) in
    f.count_is ∙ ap (count_by_first h) at ∙ sym (count_is h bytes f.some)

pub is_outside : (h : FileHeader) (bytes : List ℕ) (entries : List (List ℕ)) (first : List ℕ) (count : ℕ)
    → IsFound h bytes entries first count → length entries < count → IsTableOutside h bytes
is_outside h bytes entries first count f lt =
    let c = stated h bytes entries first count f in
    inr (omega (arith, c, lt, f.within, f.count_of_entries))

pub is_inside : (h : FileHeader) (bytes : List ℕ) (entries : List (List ℕ)) (first : List ℕ) (count : ℕ)
    → IsFound h bytes entries first count → count ≤ length entries → ¬ (IsTableOutside h bytes)
is_inside h bytes entries first count f le =
    let c = stated h bytes entries first count f in
    ⊎_elim (λ lt. omega (arith, lt, f.after)) (λ lt. omega (arith, lt, c, le, f.within, f.entry, f.count_of_entries))

pub table_is : (h : FileHeader) (bytes : List ℕ) (entries : List (List ℕ)) (first : List ℕ) (count : ℕ)
    → IsFound h bytes entries first count → count ≤ length entries → take count entries ≡ section_header_bytes h bytes
table_is h bytes entries first count f le =
    let c = stated h bytes entries first count f in
    ap (take count) f.entries_are
    ∙ take-first_chunks file_header_len count ((length bytes - h.section_headers) / 64) (drop h.section_headers bytes) (omega (arith, le, f.count_of_entries))
    ∙ ap (λ (n : ℕ). first_chunks file_header_len n (drop h.section_headers bytes)) c
