-- Pure ASCII texts, whose end is found 16 bytes at a time.
use Rattle.std.proofs.Common.{◌≡◌, ◌≢◌, ℕ, suc, ◌+◌, ◌-◌, ◌<◌, ◌≤◌, zero, leb, eqb, cond, not, ◌||◌, bit_or, Bool, List, [], ◌∷◌, length, map, replicate, take, drop, get_or, Some, None, true, false, Ok, inl, inr, refl, sym, ap, subst, ◌∙◌, arith}
use Rattle.std.specs.Str.{IsUtf8, IsCharBoundary}
use Rattle.std.specs.List.{prefix_len}
use Rattle.std.proofs.lemmas.Bool.{eqb-false, eqb-true, ne_eqb, leb-false, leb-true, cases_lt}
use Rattle.std.proofs.lemmas.Simd.{run_in_chunk_fails, run_in_chunk_le, run_in_chunk_stops}
use Rattle.std.proofs.lemmas.List.{get_or-take, get_or-drop, length-map, length-drop, length-take-le, take-append-drop}
use Rattle.std.proofs.lemmas.Str.{IsUtf8-from_ascii, IsUtf8-append, IsUtf8-drop, IsCharBoundary-after_ascii}
use Rattle.std.proofs.lemmas.Str.Ascii.{IsAscii-from_reads}
use Rattle.bstr.proofs.lemmas.EncodeLemmas.{lossy_chars-utf8}
use lib.Lanes.{chunk, top, zip2}
use Rattle.btf_model.specs.Text.{is_zero, bytes_at, text_of, text_at}
use Rattle.btf_model.proofs.Texts.{bytes_are, no_bytes}
use Rattle.btf_table.specs.Ascii.{ends_plain, IsAsciiEnd, IsAsciiText, BeginsAscii}

-- no byte below an index is zero, and each is ASCII
abbrev pub AreAscii : List ℕ → ℕ → Type 0
AreAscii bytes at = (k : ℕ) → k < at → (get_or bytes k 0 ≢ 0) × (get_or bytes k 0 < 128)

module _ (bytes : List ℕ) (at zero other : ℕ) (room : at + 16 ≤ length bytes) (zeros : zero ≡ prefix_len (λ b. not (is_zero b)) (chunk at 16 bytes)) (others : other ≡ prefix_len (λ b. not (leb 128 b)) (chunk at 16 bytes)) (before : AreAscii bytes at) where
  -- the same below the smaller of the two counts
  pub ascii_on : (end : ℕ) → end ≤ at + zero → end ≤ at + other → AreAscii bytes end
  ascii_on end below_zero below_other k lt =
      elim (cases_lt k at) [
        | inl early ↦ before k early
        | inr late ↦ (
          eqb-false (get_or bytes k 0) 0 (run_in_chunk_fails is_zero bytes at 16 zero 0 room zeros k late (omega arith)),
          leb-false 128 (get_or bytes k 0) (run_in_chunk_fails (leb 128) bytes at 16 other 0 room others k late (omega arith)),
        )
      ]

  -- a zero byte before anything that is not ASCII ends the text
  pub ascii_ends : zero ≤ other → zero < 16 → IsAsciiEnd bytes (at + zero)
  ascii_ends le lt = record {
    within = omega arith;
    stops = eqb-true (get_or bytes (at + zero) 0) 0 (run_in_chunk_stops is_zero bytes at 16 zero 0 room zeros lt);
    ascii = ascii_on (at + zero) (omega arith) (omega arith);
  }

  -- the bytes before the first byte that is not ASCII, if no zero byte is before it
  pub few_before : other < zero → other < 16
  few_before lt = omega (arith, lt, run_in_chunk_le is_zero bytes at 16 zero 0 room zeros)

  pub begins_before : other < zero → BeginsAscii bytes (at + other)
  begins_before lt = record {
    within = omega (arith, room, few_before lt);
    each = ascii_on (at + other) (omega (arith, lt)) (omega arith);
  }

  -- if a byte that is not ASCII is before any zero byte, there is no end
  pub none_ends : other < zero → (end : ℕ) → ¬ (IsAsciiEnd bytes end)
  none_ends lt end h =
      let few : other < 16 = few_before lt in
      let high : 128 ≤ get_or bytes (at + other) 0 = leb-true 128 _ (run_in_chunk_stops (leb 128) bytes at 16 other 0 room others few) in
      elim (cases_lt (at + other) end) [
        | inl after ↦ omega (arith, high, (h.ascii (at + other) after).1)
        | inr early ↦
            elim (cases_lt end (at + other)) [
              | inl first ↦ (ascii_on (suc end) (omega (arith, lt, first)) (omega (arith, first)) end (omega arith)).0 h.stops
              | inr late ↦
                  let here : end ≡ at + other = omega (arith, early, late) in
                  omega (arith, high, subst (λ k. get_or bytes k 0 ≡ 0) here h.stops)
            ]
      ]

  -- if the bytes end after these 16, and none of them is zero, no text ends
  pub nothing_ends : 16 ≤ zero → length bytes ≤ at + 16 → (end : ℕ) → ¬ (IsAsciiEnd bytes end)
  nothing_ends whole last end h =
      elim (cases_lt end at) [
        | inl early ↦ (before end early).0 h.stops
        | inr late ↦ eqb-false (get_or bytes end 0) 0 (run_in_chunk_fails is_zero bytes at 16 zero 0 room zeros end late (omega (arith, whole, last, h.within))) h.stops
      ]

-- ---- the first byte that ends a text or is not ASCII

-- what the two comparisons of a lane say together
end_lane : (p q : Bool) → top 7 (bit_or (cond p 255 0) (cond q 255 0)) ≡ (p || q)
end_lane false false = refl
end_lane false true = refl
end_lane true false = refl
end_lane true true = refl

-- what the comparisons of all lanes say together
pub end_lanes : (v : List ℕ) (n : ℕ) → length v ≡ n → map (top 7) (zip2 bit_or (zip2 (λ a b. cond (eqb a b) 255 0) v (replicate n 0)) (zip2 (λ a b. cond (leb a b) 255 0) (replicate n 128) v)) ≡ map ends_plain v
end_lanes [] n is = refl
end_lanes (x ∷ xs) zero is = cc
end_lanes (x ∷ xs) (suc n) is = let tail = end_lanes xs n (omega (arith, is)) in let head = end_lane (eqb x 0) (leb 128 x) in λ i. head i ∷ tail i

pub length-ends : (v : List ℕ) → length (map ends_plain v) ≡ length v
length-ends v = length-map v ends_plain

or_false : (p q : Bool) → (p || q) ≡ false → (p ≡ false) × (q ≡ false)
or_false false q is = (refl, is)
or_false true q is = cc

-- if the first such byte is zero, the text ends there
pub plain_ends : (bytes : List ℕ) (at len : ℕ) → at + 16 ≤ length bytes → len ≡ prefix_len (λ b. not (ends_plain b)) (chunk at 16 bytes) → AreAscii bytes at → len < 16 → get_or bytes (at + len) 0 ≡ 0 → IsAsciiEnd bytes (at + len)
plain_ends bytes at len room is before lt stops = record {
  within = omega arith;
  stops = stops;
  ascii = λ k below. elim (cases_lt k at) [
    | inl early ↦ before k early
    | inr late ↦
        let neither = or_false (is_zero (get_or bytes k 0)) (leb 128 (get_or bytes k 0)) (run_in_chunk_fails ends_plain bytes at 16 len 0 room is k late (omega arith)) in
        (eqb-false (get_or bytes k 0) 0 neither.0, leb-false 128 (get_or bytes k 0) neither.1)
  ];
}

-- such a text is UTF-8
pub end_is_utf8 : (bytes : List ℕ) (end : ℕ) → IsAsciiEnd bytes end → IsUtf8 (take end bytes)
end_is_utf8 bytes end h =
    IsUtf8-from_ascii (take end bytes) (IsAscii-from_reads (take end bytes) end (omega (arith, length-take-le end bytes (omega (arith, h.within)))) (λ k lt. subst (λ b. b < 128) (sym (get_or-take end bytes k 0 lt)) (h.ascii k lt).1))

-- the text of bytes that are UTF-8 is these bytes
pub utf8_text_at : (strings : List ℕ) (offset : ℕ) (bytes text : List ℕ) → Some bytes ≡ bytes_at strings offset → text ≡ bytes → IsUtf8 bytes → Ok text ≡ text_at strings offset
utf8_text_at strings offset bytes text found is whole = ap (λ (xs : List ℕ). Ok xs) (is ∙ sym (lossy_chars-utf8 bytes whole)) ∙ ap (text_of offset) found

-- and it is the text that is read at this place
pub ascii_text_at : (strings : List ℕ) (offset : ℕ) (rest text : List ℕ) → rest ≡ drop offset strings → IsAsciiText rest text → Ok text ≡ text_at strings offset
ascii_text_at strings offset rest text is h =
    let end = h.0 in
    let found : bytes_at strings offset ≡ Some (take end rest) =
    bytes_are strings offset rest end is h.1.within (λ k lt. ne_eqb (get_or rest k 0) 0 (h.1.ascii k lt).0) (ap is_zero h.1.stops) in
    utf8_text_at strings offset (take end rest) text (sym found) h.2 (end_is_utf8 rest end h.1)

-- ---- bytes that begin with ASCII

-- no byte before an index is zero, if none of the first bytes is, and none between these and the index
module _ (rest after : List ℕ) (ascii : ℕ) (begins : BeginsAscii rest ascii) (after-is : after ≡ drop ascii rest) where
  none_before : (n : ℕ) → ((k : ℕ) → k < n → is_zero (get_or after k 0) ≡ false) → (k : ℕ) → k < ascii + n → is_zero (get_or rest k 0) ≡ false
  none_before n none k lt =
      elim (cases_lt k ascii) [
        | inl early ↦ ne_eqb (get_or rest k 0) 0 (begins.each k early).0
        | inr late ↦
            let same : ascii + (k - ascii) ≡ k = omega (arith, late) in
            let here : get_or after (k - ascii) 0 ≡ get_or rest k 0 =
            ap (λ (xs : List ℕ). get_or xs (k - ascii) 0) after-is ∙ get_or-drop ascii rest (k - ascii) 0 ∙ ap (λ (i : ℕ). get_or rest i 0) same in
            subst (λ b. is_zero b ≡ false) here (none (k - ascii) (omega (arith, lt, late)))
      ]

  length-after : ascii + length after ≡ length rest
  length-after = omega (arith, ap length after-is, length-drop ascii rest, begins.within)

-- the bytes up to a zero byte that is found after the first
pub bytes_after : (strings rest after : List ℕ) (offset ascii n : ℕ) → rest ≡ drop offset strings → BeginsAscii (drop offset strings) ascii → after ≡ drop ascii rest → n < length after → ((k : ℕ) → k < n → is_zero (get_or after k 0) ≡ false) → is_zero (get_or after n 0) ≡ true → bytes_at strings offset ≡ Some (take (ascii + n) rest)
bytes_after strings rest after offset ascii n is begins after-is lt none zero-there =
    let here : BeginsAscii rest ascii = subst (λ (xs : List ℕ). BeginsAscii xs ascii) (sym is) begins in
    let at : get_or after n 0 ≡ get_or rest (ascii + n) 0 = ap (λ (xs : List ℕ). get_or xs n 0) after-is ∙ get_or-drop ascii rest n 0 in
    bytes_are strings offset rest (ascii + n) is (omega (arith, lt, length-after rest after ascii here after-is)) (none_before rest after ascii here after-is n none) (subst (λ b. is_zero b ≡ true) at zero-there)

-- none if none is found after the first bytes
pub no_bytes_after : (strings rest after : List ℕ) (offset ascii : ℕ) → rest ≡ drop offset strings → BeginsAscii (drop offset strings) ascii → after ≡ drop ascii rest → ((k : ℕ) → k < length after → is_zero (get_or after k 0) ≡ false) → bytes_at strings offset ≡ None
no_bytes_after strings rest after offset ascii is begins after-is none =
    let here : BeginsAscii rest ascii = subst (λ (xs : List ℕ). BeginsAscii xs ascii) (sym is) begins in
    no_bytes strings offset rest is (λ k lt. none_before rest after ascii here after-is (length after) none k (omega (arith, lt, length-after rest after ascii here after-is)))

-- ASCII followed by UTF-8 is UTF-8
pub utf8_with_ascii : (bytes : List ℕ) (ascii : ℕ) → BeginsAscii bytes ascii → IsUtf8 (drop ascii bytes) → IsUtf8 bytes
utf8_with_ascii bytes ascii begins after =
    let front : IsUtf8 (take ascii bytes) =
    IsUtf8-from_ascii (take ascii bytes) (IsAscii-from_reads (take ascii bytes) ascii (omega (arith, length-take-le ascii bytes begins.within)) (λ k lt. subst (λ b. b < 128) (sym (get_or-take ascii bytes k 0 lt)) (begins.each k lt).1)) in
    subst IsUtf8 (take-append-drop ascii bytes) (IsUtf8-append (take ascii bytes) (drop ascii bytes) front after)

-- and the bytes after ASCII in UTF-8 are UTF-8
pub utf8_after_ascii : (bytes : List ℕ) (ascii : ℕ) → BeginsAscii bytes ascii → IsUtf8 bytes → IsUtf8 (drop ascii bytes)
utf8_after_ascii bytes zero begins whole = whole
utf8_after_ascii bytes (suc k) begins whole =
    let last : k + 1 ≡ suc k = omega arith in
    let boundary = IsCharBoundary-after_ascii bytes k whole (omega (arith, begins.within)) (begins.each k (omega arith)).1 in
    IsUtf8-drop bytes (suc k) whole (subst (IsCharBoundary bytes) last boundary)

-- ASCII at the front of bytes is at the front of a longer part of them
pub begins_part : (bytes : List ℕ) (ascii end : ℕ) → BeginsAscii bytes ascii → ascii ≤ end → end ≤ length bytes → BeginsAscii (take end bytes) ascii
begins_part bytes ascii end begins le within = record {
  within = omega (arith, le, length-take-le end bytes within);
  each = λ k lt.
      let same : get_or (take end bytes) k 0 ≡ get_or bytes k 0 = get_or-take end bytes k 0 (omega (arith, le, lt)) in
      subst (λ b. (b ≢ 0) × (b < 128)) (sym same) (begins.each k lt);
}
