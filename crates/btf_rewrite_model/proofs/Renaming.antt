-- A name in which one byte is replaced by another is read back unchanged: it is UTF-8, and has no zero byte.
use Rattle.std.proofs.Common.{◌≡◌, ◌==◌, ℕ, zero, suc, ◌+◌, ◌<◌, ◌≤◌, Bool, true, false, List, [], ◌∷◌, ◌++◌, length, take, drop, get_or, Option, None, Some, Ok, refl, sym, ap, subst, ◌∙◌, arith, ⊎_elim}
use Rattle.std.specs.Prelude.{if◌then◌else◌, nat_lt, Contains}
use Rattle.std.specs.Option.{unwrap_or}
use Rattle.std.specs.Str.{IsUtf8, IsValidUpTo, encode_utf8_all}
use Rattle.std.specs.Char.{encode_utf8}
use Rattle.std.proofs.Math.Utf8.{scalar, scalars}
use Rattle.std.specs.Str.Lossy.{utf8_valid_len, utf8_error_len, error_len_of_some, error_len_after_one, error_len_after_two, utf8_invalid_len, after_first_chunk, replacement_bytes, utf8_lossy, utf8_lossy_within, second_byte_min, second_byte_max}
use Rattle.std.specs.Int.{is_in_range}
use Rattle.std.specs.Prelude.{slice_index}
use Rattle.std.proofs.lemmas.Bool.{false≢true, cases_lt, and_parts, eq-eqb, ne_eqb}
use Rattle.std.proofs.lemmas.List.{map-append, append-nil, length-drop}
use Rattle.std.proofs.lemmas.Str.{IsUtf8-append, IsUtf8-encode, IsUtf8-from_ascii, IsUtf8-nil, utf8_lossy-IsUtf8, utf8_lossy_step, encode_ascii, inside_one}
use Rattle.bstr.proofs.lemmas.LossyLemmas.{utf8_valid_len-cases, lossy_chars-utf8_lossy}
use Rattle.btf_model.specs.Text.{text_at, lossy}
use Rattle.btf_rewrite_model.specs.Pass.{replaced}
use Rattle.btf_model.proofs.Texts.{added_text}

-- ---- no zero byte

abbrev pub NoZero : List ℕ → Type 0
NoZero [] = Unit {0}
NoZero (b ∷ bs) = ((b == 0) ≡ false) × NoZero bs

no_zero_append : (xs ys : List ℕ) → NoZero xs → NoZero ys → NoZero (xs ++ ys)
no_zero_append [] ys some others = others
no_zero_append (x ∷ xs) ys some others = (some.0, no_zero_append xs ys some.1 others)

no_zero_take : (n : ℕ) (xs : List ℕ) → NoZero xs → NoZero (take n xs)
no_zero_take zero xs none = tt
no_zero_take (suc n) [] none = tt
no_zero_take (suc n) (x ∷ xs) none = (none.0, no_zero_take n xs none.1)

no_zero_drop : (n : ℕ) (xs : List ℕ) → NoZero xs → NoZero (drop n xs)
no_zero_drop zero xs none = none
no_zero_drop (suc n) [] none = tt
no_zero_drop (suc n) (x ∷ xs) none = no_zero_drop n xs none.1

-- a lossy text of such bytes has none
no_zero_within : (k : ℕ) (bs : List ℕ) → NoZero bs → NoZero (utf8_lossy_within k bs)
no_zero_within zero bs none = none
no_zero_within (suc k) bs none =
    let n : ℕ = utf8_valid_len bs in
    elim (utf8_valid_len bs == length bs) as (λ (b : Bool). NoZero (if b then bs else take n bs ++ (replacement_bytes ++ utf8_lossy_within k (after_first_chunk bs)))) [
      | true ↦ none
      | false ↦
          no_zero_append (take n bs) (replacement_bytes ++ utf8_lossy_within k (after_first_chunk bs)) (no_zero_take n bs none)
          (refl, (refl, (refl, no_zero_within k (after_first_chunk bs) (no_zero_drop (n + utf8_invalid_len (drop n bs)) bs none))))
    ]

pub no_zero_lossy : (bs : List ℕ) → NoZero bs → NoZero (lossy bs)
unfolding utf8_lossy
no_zero_lossy bs none = subst NoZero (sym (lossy_chars-utf8_lossy bs)) (no_zero_within (length bs) bs none)

-- ---- UTF-8

-- a number in this list is at least 1
abbrev IsPositive : Option ℕ → Type 0
IsPositive None = Unit {0}
IsPositive (Some n) = 1 ≤ n

positive_if : (b : Bool) (x y : Option ℕ) → IsPositive x → IsPositive y → IsPositive (if b then x else y)
positive_if true x y p q = p
positive_if false x y p q = q

after_two_positive : (bs : List ℕ) → IsPositive (error_len_after_two bs)
after_two_positive bs =
    positive_if (nat_lt (length bs) 3) None (if is_in_range 0x80 0xBF (slice_index bs 2) then (if nat_lt (length bs) 4 then None else Some 3) else Some 2) tt
    (positive_if (is_in_range 0x80 0xBF (slice_index bs 2)) (if nat_lt (length bs) 4 then None else Some 3) (Some 2) (positive_if (nat_lt (length bs) 4) None (Some 3) tt (omega arith)) (omega arith))

after_one_positive : (bs : List ℕ) → IsPositive (error_len_after_one bs)
after_one_positive bs =
    let x : ℕ = slice_index bs 0 in
    positive_if (nat_lt (length bs) 2) None (if is_in_range (second_byte_min x) (second_byte_max x) (slice_index bs 1) then error_len_after_two bs else Some 1) tt
    (positive_if (is_in_range (second_byte_min x) (second_byte_max x) (slice_index bs 1)) (error_len_after_two bs) (Some 1) (after_two_positive bs) (omega arith))

error_positive : (bs : List ℕ) → IsPositive (utf8_error_len bs)
unfolding utf8_error_len
error_positive bs =
    positive_if (length bs == 0) None (error_len_of_some bs) tt
    (positive_if (is_in_range 0xC2 0xF4 (slice_index bs 0)) (error_len_after_one bs) (Some 1) (after_one_positive bs) (omega arith))

positive_or : (o : Option ℕ) (n : ℕ) → IsPositive o → 1 ≤ n → 1 ≤ unwrap_or o n
positive_or None n p some = some
positive_or (Some k) n p some = p

-- the bytes after the first invalid piece are fewer
shorter : (bs : List ℕ) → utf8_valid_len bs < length bs → length (after_first_chunk bs) < length bs
shorter bs lt =
    let n : ℕ = utf8_valid_len bs in
    let some : 1 ≤ utf8_invalid_len (drop n bs) = positive_or (utf8_error_len (drop n bs)) (length (drop n bs)) (error_positive (drop n bs)) (omega (arith, length-drop n bs, lt)) in
    omega (arith, some, lt, length-drop (n + utf8_invalid_len (drop n bs)) bs)

replacement_is_utf8 : IsUtf8 replacement_bytes
unfolding encode_utf8
replacement_is_utf8 = (0xFFFD ∷ [], (refl, refl))

itself : (bs : List ℕ) → IsUtf8 bs → IsUtf8 (utf8_lossy bs)
itself bs is = subst IsUtf8 (sym (utf8_lossy-IsUtf8 bs is)) is

utf8_within : (k : ℕ) (bs : List ℕ) → length bs ≤ k → IsUtf8 (utf8_lossy bs)
utf8_within zero bs le = ⊎_elim (itself bs) (λ (part : IsValidUpTo bs (utf8_valid_len bs)). absurd (omega (arith, le, part.short))) (utf8_valid_len-cases bs)
utf8_within (suc k) bs le =
    ⊎_elim (itself bs)
    (λ (part : IsValidUpTo bs (utf8_valid_len bs)).
    let less : length (after_first_chunk bs) < length bs = shorter bs part.short in
    subst IsUtf8 (sym (utf8_lossy_step bs (λ all. absurd (omega (arith, all, part.short)))))
    (IsUtf8-append (take (utf8_valid_len bs) bs) (replacement_bytes ++ utf8_lossy (after_first_chunk bs)) part.front
    (IsUtf8-append replacement_bytes (utf8_lossy (after_first_chunk bs)) replacement_is_utf8 (utf8_within k (after_first_chunk bs) (omega (arith, less, le))))))
    (utf8_valid_len-cases bs)

-- A lossy text is UTF-8.
pub lossy_is_utf8 : (bs : List ℕ) → IsUtf8 (lossy bs)
lossy_is_utf8 bs = subst IsUtf8 (sym (lossy_chars-utf8_lossy bs)) (utf8_within (length bs) bs (omega arith))

-- ---- one byte replaced by another

-- if the byte does not occur, nothing is replaced
replaced_none : (byte other : ℕ) (bs : List ℕ) → ((k : ℕ) → k < length bs → (get_or bs k 0 == byte) ≡ false) → replaced byte other bs ≡ bs
replaced_none byte other [] none = refl
replaced_none byte other (b ∷ bs) none =
    ap (λ (c : Bool). (if c then other else b) ∷ replaced byte other bs) (none 0 (omega arith))
    ∙ ap (λ xs. b ∷ xs) (replaced_none byte other bs (λ k lt. none (suc k) (omega (arith, lt))))

one_byte : (byte other c : ℕ) → other < 128 → c < 128 → IsUtf8 (replaced byte other (c ∷ []))
one_byte byte other c ascii small =
    elim (c == byte) as (λ (b : Bool). IsUtf8 ((if b then other else c) ∷ [])) [ true ↦ ascii_one other ascii | false ↦ ascii_one c small ]
  where
    ascii_at : (d : ℕ) → d < 128 → (i : ℕ) → slice_index (d ∷ []) i < 128
    ascii_at d lt zero = lt
    ascii_at d lt (suc i) = omega arith

    ascii_one : (d : ℕ) → d < 128 → IsUtf8 (d ∷ [])
    ascii_one d lt = IsUtf8-from_ascii (d ∷ []) (ascii_at d lt)

-- a character in which one ASCII byte is replaced by another is text
one_char : (byte other c : ℕ) → byte < 128 → other < 128 → scalar c ≡ true → IsUtf8 (replaced byte other (encode_utf8 c))
one_char byte other c ascii ascii_too is =
    ⊎_elim
    (λ (small : c < 128). subst (λ bs. IsUtf8 (replaced byte other bs)) (sym (encode_ascii c small)) (one_byte byte other c ascii_too small))
    (λ (large : 128 ≤ c).
    let stays : replaced byte other (encode_utf8 c) ≡ encode_utf8 c = replaced_none byte other (encode_utf8 c) (λ k lt. ne_eqb (get_or (encode_utf8 c) k 0) byte (λ same.
    absurd (omega (arith, large, ascii, same, inside_one c [] (encode_utf8 c) k (sym (append-nil (encode_utf8 c))) lt (omega (arith, same, ascii)))))) in
    subst IsUtf8 (sym stays) (IsUtf8-encode c is))
    (cases_lt c 128)

all_chars : (byte other : ℕ) (cs : List ℕ) → byte < 128 → other < 128 → scalars cs ≡ true → IsUtf8 (replaced byte other (encode_utf8_all cs))
all_chars byte other [] ascii ascii_too is = IsUtf8-nil
all_chars byte other (c ∷ cs) ascii ascii_too is =
    let parts = and_parts (scalar c) (scalars cs) is in
    subst IsUtf8 (sym (map-append (λ (b : ℕ). if b == byte then other else b) (encode_utf8 c) (encode_utf8_all cs)))
    (IsUtf8-append (replaced byte other (encode_utf8 c)) (replaced byte other (encode_utf8_all cs)) (one_char byte other c ascii ascii_too parts.0) (all_chars byte other cs ascii ascii_too parts.1))

-- Text in which one ASCII byte is replaced by another is text.
pub replaced_is_utf8 : (byte other : ℕ) (bs : List ℕ) → byte < 128 → other < 128 → IsUtf8 bs → IsUtf8 (replaced byte other bs)
replaced_is_utf8 byte other bs ascii ascii_too is = subst (λ xs. IsUtf8 (replaced byte other xs)) is.1.1 (all_chars byte other is.0 ascii ascii_too is.1.0)

no_zero_replaced : (byte other : ℕ) (bs : List ℕ) → (other == 0) ≡ false → NoZero bs → NoZero (replaced byte other bs)
no_zero_replaced byte other [] some none = tt
no_zero_replaced byte other (b ∷ bs) some none =
    (elim (b == byte) as (λ (c : Bool). ((if c then other else b) == 0) ≡ false) [ true ↦ some | false ↦ none.0 ], no_zero_replaced byte other bs some none.1)

not_contained : (bs : List ℕ) → NoZero bs → Contains bs 0 → ⊥
not_contained bs none at = go bs at.0 none at.1 at.2
  where
    go : (xs : List ℕ) (k : ℕ) → NoZero xs → k < length xs → get_or xs k 0 ≡ 0 → ⊥
    go [] k free lt is = absurd (omega (arith, lt))
    go (x ∷ xs) zero free lt is = absurd (false≢true (sym free.0 ∙ eq-eqb x 0 is))
    go (x ∷ xs) (suc k) free lt is = go xs k free.1 (omega (arith, lt)) is

-- ---- the name

-- A name without zero bytes, in which one ASCII byte is replaced by another, is read back after other strings.
pub renamed_reads_back : (strings bytes : List ℕ) (byte other : ℕ) → byte < 128 → other < 128 → (other == 0) ≡ false → NoZero bytes
    → text_at (strings ++ replaced byte other (lossy bytes) ++ 0 ∷ []) (length strings) ≡ Ok (replaced byte other (lossy bytes))
renamed_reads_back strings bytes byte other ascii ascii_too some none =
    let text : List ℕ = replaced byte other (lossy bytes) in
    added_text strings text (replaced_is_utf8 byte other (lossy bytes) ascii ascii_too (lossy_is_utf8 bytes)) (not_contained text (no_zero_replaced byte other (lossy bytes) some (no_zero_lossy bytes none)))

-- Replacing a byte that does not occur any more changes nothing.
pub replaced_twice : (byte other : ℕ) (bs : List ℕ) → (other == byte) ≡ false → replaced byte other (replaced byte other bs) ≡ replaced byte other bs
replaced_twice byte other [] differ = refl
replaced_twice byte other (b ∷ bs) differ =
    ap (λ (n : ℕ). n ∷ replaced byte other (replaced byte other bs)) (elim (b == byte) as (λ (c : Bool). b == byte ≡ c → (if (if c then other else b) == byte then other else (if c then other else b)) ≡ (if c then other else b)) [
      | true ↦ λ _. ap (λ (c : Bool). if c then other else other) differ
      | false ↦ λ is. ap (λ (c : Bool). if c then other else b) is
    ] refl) ∙ ap (λ xs. (if b == byte then other else b) ∷ xs) (replaced_twice byte other bs differ)
