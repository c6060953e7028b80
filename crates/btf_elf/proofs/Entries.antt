-- The entries of tables in bytes.
use Rattle.std.proofs.Common.{◌≡◌, ◌≢◌, ◌∙◌, ℕ, zero, suc, ◌+◌, ◌*◌, ◌^◌, ◌<◌, Bool, true, false, cond, List, [], ◌∷◌, ◌++◌, length, take, drop, get_or, Some, refl, sym, ap, arith}
use Rattle.std.specs.Prelude.{slice_get, slice_set, find}
use Rattle.std.specs.Int.{w64}
use Rattle.std.specs.Simd.{first_chunks}
use Rattle.std.proofs.lemmas.List.{get_or-map, length-map, length-set, get_or-set_other, get_or-set_same, drop-drop, take_at, take_all, drop_at}
use Rattle.std.proofs.lemmas.Nat.{from_le_bytes-to_le_bytes_8, from_be_bytes-to_be_bytes_8}
use Rattle.std.proofs.lemmas.Option.{slice_get-get_or}
use Rattle.btf_model.specs.Word.{bytes_of, number_of}
use Rattle.btf_model.specs.Blob.{slice}
use Rattle.btf_model.specs.declared.endianness.Endianness.{Endianness}
use Rattle.btf_model.specs.declared.endianness.Endianness.TheVariants.{Little, Big}
use Rattle.btf_elf_model.specs.Header.{file_header_len}
use Rattle.btf_elf_model.specs.Section.{section_header, headers_of}
use Rattle.btf_elf_model.specs.declared.file_header.FileHeader.{FileHeader}
use Rattle.btf_elf_model.specs.declared.section_header.SectionHeader.{SectionHeader}

-- ---- numbers of eight bytes

pub length-xword : (order : Endianness) (n : ℕ) → length (bytes_of w64 order n) ≡ 8
length-xword Little n = refl
length-xword Big n = refl

-- a number that is written is read back
pub number_of-bytes_of : (order : Endianness) (n : ℕ) → n < 2 ^ 64 → number_of w64 order (bytes_of w64 order n) ≡ n
number_of-bytes_of Little n lt = from_le_bytes-to_le_bytes_8 n lt
number_of-bytes_of Big n lt = from_be_bytes-to_be_bytes_8 n lt

-- the first of two runs of eight bytes, and the second
pub slice-first : (xs ys : List ℕ) → length xs ≡ 8 → slice 0 8 (xs ++ ys) ≡ xs
slice-first xs ys len = take_at xs ys 8 len

pub slice-second : (xs ys : List ℕ) → length xs ≡ 8 → length ys ≡ 8 → slice 8 8 (xs ++ ys) ≡ ys
slice-second xs ys len len' =
    let at : drop 8 (xs ++ ys) ≡ ys = drop_at xs ys 8 len in
    let all : take 8 ys ≡ ys = take_all 8 ys (omega (arith, len')) in
    ap (λ (zs : List ℕ). take 8 zs) at ∙ all

-- ---- section headers

pub length-first_chunks : {X : Type 0} (n k : ℕ) (xs : List X) → length (first_chunks n k xs) ≡ k
length-first_chunks n zero xs = refl
length-first_chunks n (suc k) xs = ap suc (length-first_chunks n k (drop n xs))

get_or-first_chunks : {X : Type 0} (n c : ℕ) (xs : List X) (k : ℕ) (d : List X) → k < c → get_or (first_chunks n c xs) k d ≡ take n (drop (n * k) xs)
get_or-first_chunks n zero xs k d lt = absurd (omega arith)
get_or-first_chunks n (suc c) xs zero d lt =
    let none : 0 ≡ n * 0 = omega arith in
    ap (λ (m : ℕ). take n (drop m xs)) none
get_or-first_chunks n (suc c) xs (suc k) d lt =
    let more : n + n * k ≡ n * suc k = grind arith in
    get_or-first_chunks n c (drop n xs) k d (omega arith)
    ∙ ap (take n) (drop-drop (n * k) n xs)
    ∙ ap (λ (m : ℕ). take n (drop m xs)) more

pub length-headers : (h : FileHeader) (count : ℕ) (bytes : List ℕ) → length (headers_of h count bytes) ≡ count
unfolding headers_of
length-headers h count bytes = length-map (first_chunks file_header_len count (drop h.section_headers bytes)) (section_header h.order) ∙ length-first_chunks file_header_len count (drop h.section_headers bytes)

-- the header of a section, by its place in the bytes
pub header_at : (h : FileHeader) (count : ℕ) (bytes : List ℕ) (k : ℕ) (d : SectionHeader) → k < count
    → get_or (headers_of h count bytes) k d ≡ section_header h.order (slice (h.section_headers + file_header_len * k) file_header_len bytes)
unfolding headers_of
header_at h count bytes k d lt =
    let rest = drop h.section_headers bytes in
    get_or-map (section_header h.order) (first_chunks file_header_len count rest) k [] d (omega (arith, lt, length-first_chunks file_header_len count rest))
    ∙ ap (section_header h.order) (get_or-first_chunks file_header_len count rest k [] lt ∙ ap (take file_header_len) (drop-drop (file_header_len * k) h.section_headers bytes))

-- ---- an element that replaces another

pub slice_get-set_other : {X : Type 0} (xs : List X) (i k : ℕ) (v d : X) → k ≢ i → k < length xs → slice_get (slice_set xs i v) k ≡ Some (get_or xs k d)
slice_get-set_other xs i k v d other lt =
    slice_get-get_or (slice_set xs i v) k d (omega (arith, lt, length-set xs i v)) ∙ ap (λ x. Some x) (get_or-set_other xs i k v d other)

pub slice_get-set_same : {X : Type 0} (xs : List X) (i : ℕ) (v : X) → i < length xs → slice_get (slice_set xs i v) i ≡ Some v
slice_get-set_same xs i v lt =
    slice_get-get_or (slice_set xs i v) i v (omega (arith, lt, length-set xs i v)) ∙ ap (λ x. Some x) (get_or-set_same xs i v v lt)

-- the element that is found
pub found_at : {X : Type 0} (p : X → Bool) (xs : List X) (x : X) → find p xs ≡ Some x → (k : ℕ) × (k < length xs) × (get_or xs k x ≡ x) × (p x ≡ true)
found_at p [] x is = cc
found_at {X} p (y ∷ xs) x is = by_test (p y) refl is (λ more. found_at p xs x more)
  where
    by_test : (b : Bool) → p y ≡ b → cond b (Some y) (find p xs) ≡ Some x
        → (find p xs ≡ Some x → (k : ℕ) × (k < length xs) × (get_or xs k x ≡ x) × (p x ≡ true))
        → (k : ℕ) × (k < length (y ∷ xs)) × (get_or (y ∷ xs) k x ≡ x) × (p x ≡ true)
    by_test true passes found later = let same : y ≡ x = cc in (0, omega arith, same, sym (ap p same) ∙ passes)
    by_test false fails found later = let at = later found in (suc at.0, omega (arith, at.1), at.2, at.3)
