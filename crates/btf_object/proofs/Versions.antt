-- A version in a text: two numbers with a dot between them, and what may follow.
use Rattle.std.proofs.Common.{◌≡◌, ◌≢◌, ℕ, zero, suc, ◌+◌, ◌<◌, ◌≤◌, Bool, true, false, ◌||◌, ◌&&◌, List, [], ◌∷◌, ◌++◌, length, take, drop, cond, get_or, Option, None, Some, refl, sym, ap, subst, ◌∙◌, arith, append_assoc, eqb-true}
use Rattle.std.specs.Prelude.{◌==◌, not, codes, position, nat_lt, nat_le, MatchOption}
use Rattle.std.specs.Borrow.{Bor}
use Rattle.std.specs.Char.{is_ascii_digit}
use Rattle.std.specs.Int.{IsInRange}
use Rattle.std.specs.List.{position_or_len}
use Rattle.std.specs.Str.{IsUtf8, IsCharBoundary}
use Rattle.std.proofs.lemmas.Bool.{false≢true, and_parts, leb-true, le-leb}
use Rattle.std.proofs.lemmas.List.{length-append, get_or_append_left, get_or-append-add}
use Rattle.std.proofs.Math.Seq.{take-append_seam, drop-append_seam}
use Rattle.std.proofs.lemmas.List.Sums.{position_or_len_is, fails_before_first, prefix_len-le-length}
use Rattle.std.proofs.lemmas.Option.{none-some, same_Some}
use Rattle.std.proofs.lemmas.Str.{IsCharBoundary-start, IsCharBoundary-after_ascii}
use Rattle.std.proofs.lemmas.Str.Parse.{digit_at}
use Rattle.std.proofs.lemmas.Str.Pattern.{IsSplitOnceResult, split_after}
use Rattle.btf_object_model.specs.Kernel.{IsVersion, ends_version}
use Rattle.btf_object_model.specs.declared.version.Version.{Version}
use Rattle.btf_object.specs.Kernel.{is_other}

-- a digit is not one of the other bytes
digit_passes : (byte : ℕ) → IsInRange 48 57 byte → is_other byte ≡ false
digit_passes byte is = ap (λ (b : Bool). not (b && nat_le byte 57)) (le-leb 48 byte is.0) ∙ ap not (le-leb byte 57 is.1)

not_false : (b : Bool) → not b ≡ false → b ≡ true
not_false true is = refl
not_false false is = absurd (false≢true (sym is))

-- a byte that does not pass the test for other bytes is a digit, and so ASCII
digit_is_ascii : (byte : ℕ) → is_other byte ≡ false → byte < 128
digit_is_ascii byte is =
    let both = and_parts (nat_le 48 byte) (nat_le byte 57) (not_false (is_ascii_digit byte) is) in
    let le : byte ≤ 57 = leb-true byte 57 both.1 in omega (arith, le)

-- the place of the first byte that passes the test
pub first_or_len : {X : Type 0} (p : X → Bool) (xs : List X) (n : ℕ) → position p xs ≡ Some n → position_or_len p xs ≡ n
first_or_len p xs n is =
    elim (nat_lt (position_or_len p xs) (length xs)) as (λ (b : Bool). cond b (Some (position_or_len p xs)) None ≡ Some n → position_or_len p xs ≡ n)
    [ true ↦ λ some. same_Some (position_or_len p xs) n some | false ↦ λ none. absurd (none-some n none) ] is

-- a text may be cut after the digits that it begins with
pub digits_end : (text : List ℕ) → IsUtf8 text → IsCharBoundary text (position_or_len is_other text)
digits_end text utf8 = go (position_or_len is_other text) refl
  where
    go : (n : ℕ) → position_or_len is_other text ≡ n → IsCharBoundary text n
    go zero is = IsCharBoundary-start text utf8
    go (suc m) is =
        let most : position_or_len is_other text ≤ length text = prefix_len-le-length (λ x. not (is_other x)) text in
        let lt : m < position_or_len is_other text = omega (arith, is) in
        let ascii : get_or text m 0 < 128 = digit_is_ascii (get_or text m 0) (fails_before_first is_other text m 0 lt) in
        let next : m + 1 ≡ suc m = omega arith in
        subst (λ (n : ℕ). IsCharBoundary text n) next (IsCharBoundary-after_ascii text m utf8 (omega (arith, most, lt)) ascii)

-- what may follow a version begins with no digit
other_by : (byte n : ℕ) → (byte == n) ≡ true → is_other n ≡ true → is_other byte ≡ true
other_by byte n is other = ap is_other (eqb-true byte n is) ∙ other

end_is_other : (rest : List ℕ) → ends_version rest ≡ true → 0 < length rest → is_other (get_or rest 0 0) ≡ true
end_is_other [] ends some = absurd (omega (arith, some))
end_is_other (byte ∷ rest) ends some =
    elim (byte == 46) as (λ (b : Bool). (byte == 46) ≡ b → (b || (byte == 45) || (byte == 43)) ≡ true → is_other byte ≡ true) [
      | true ↦ λ is _. other_by byte 46 is refl
      | false ↦ λ _.
          elim (byte == 45) as (λ (b : Bool). (byte == 45) ≡ b → (b || (byte == 43)) ≡ true → is_other byte ≡ true)
          [ true ↦ λ is _. other_by byte 45 is refl | false ↦ λ _ is. other_by byte 43 is refl ] refl
    ] refl ends

module _ (text : List ℕ) (v : Version) (is : IsVersion text v) where
  -- the text after the dot
  abbrev pub tail : List ℕ
  tail = is.1 ++ is.2

  text_is : text ≡ is.0 ++ 46 ∷ tail
  text_is = is.3 ∙ append_assoc (is.0 ++ codes ".") is.1 is.2 ∙ append_assoc is.0 (codes ".") tail

  no_dot : (i : ℕ) → i < length is.0 → get_or is.0 i 0 ≢ 46
  no_dot i lt at = let digit : IsInRange 48 57 (get_or is.0 i 0) = digit_at is.0 i is.4.0.1 lt in omega (arith, digit.0, digit.1, at)

  -- the first dot is between the numbers
  pub splits : (r : Option (Bor (List ℕ) × Bor (List ℕ))) → IsSplitOnceResult 46 text r → MatchOption r ⊥ (λ x. (x.0.now ≡ is.0) × (x.1.now ≡ tail))
  splits r h = split_after 46 text is.0 tail r h (omega arith) text_is no_dot

  -- the second number ends where the digits do
  minor_len : position_or_len is_other tail ≡ length is.1
  minor_len =
      let whole : length tail ≡ length is.1 + length is.2 = length-append is.1 is.2 in
      position_or_len_is is_other tail (length is.1) 0 (omega (arith, whole))
      (λ k lt. ap is_other (get_or_append_left is.1 is.2 0 k lt) ∙ digit_passes (get_or is.1 k 0) (digit_at is.1 k is.5.0.1 lt))
      (λ lt.
      let some : 0 < length is.2 = omega (arith, whole, lt) in
      let none : length is.1 ≡ length is.1 + 0 = omega arith in
      ap is_other (ap (λ (n : ℕ). get_or tail n 0) none ∙ get_or-append-add is.1 is.2 0 0) ∙ end_is_other is.2 is.6 some)

  -- so the text after the dot consists of the second number and what follows it
  pub minor_is : (rest : List ℕ) → rest ≡ tail → take (position_or_len is_other rest) rest ≡ is.1
  minor_is rest same = ap (λ (t : List ℕ). take (position_or_len is_other t) t) same ∙ ap (λ (n : ℕ). take n tail) minor_len ∙ take-append_seam is.1 is.2

  pub end_is : (rest : List ℕ) → rest ≡ tail → drop (position_or_len is_other rest) rest ≡ is.2
  end_is rest same = ap (λ (t : List ℕ). drop (position_or_len is_other t) t) same ∙ ap (λ (n : ℕ). drop n tail) minor_len ∙ drop-append_seam is.1 is.2
