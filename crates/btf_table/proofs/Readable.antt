-- The offsets at which texts can be read, and the names of builtin functions of kernels.
use Rattle.std.proofs.Common.{◌≡◌, ◌≢◌, ℕ, suc, ◌+◌, ◌-◌, ◌<◌, ◌≤◌, ◌==◌, ◌||◌, Bool, true, false, cond, nat_lt, List, [], ◌∷◌, ◌++◌, length, take, drop, get_or, Option, None, Some, Ok, Err, refl, sym, ap, ◌∙◌, arith, ◌⊎◌, ⊎_elim}
use Rattle.std.specs.Prelude.{position, option_map, slice_get, Contains}
use Rattle.std.proofs.lemmas.Option.{none-some, same_Some}
use Rattle.std.specs.List.{list_any, list_all, position_or_len, starts_with, AllByRecursion}
use Rattle.std.specs.Str.{IsUtf8, bytes_eq}
use Rattle.std.specs.Str.Lossy.{utf8_lossy, utf8_valid_len, replacement_bytes, after_first_chunk}
use Rattle.std.proofs.lemmas.Bool.{lt-ltb, ltb-true, true_from_ne_false, false_from_ne_true, eqb-true, eq-eqb, cases_order, false≢true}
use Rattle.std.proofs.lemmas.Bool.Decides.{Decides-eqb}
use Rattle.std.proofs.lemmas.List.{length-drop, get_or-drop, append_assoc, append_cancel_left, take-append-drop, drop_more}
use Rattle.std.proofs.lemmas.List.Sums.{fails_before_first}
use Rattle.std.proofs.lemmas.List.Folds.{list_any-append, list_any_at, list_all_at}
use Rattle.std.proofs.lemmas.List.Quantifiers.{position-Some}
use Rattle.std.proofs.lemmas.Slice.Eq.{starts_is, bytes_eq-Decides}
use Rattle.std.proofs.lemmas.Str.{utf8_lossy_step, IsUtf8-from_ascii}
use Rattle.std.proofs.lemmas.Str.Ascii.{IsAscii-from_reads}
use Rattle.bstr.proofs.lemmas.LossyLemmas.{lossy_chars-utf8_lossy}
use Rattle.btf_model.specs.Refusal.{Refusal, InvalidStringOffset}
use Rattle.btf_model.proofs.Comparisons.{same_ok}
use Rattle.btf_model.specs.Text.{is_zero, bytes_at, lossy, text_of, text_at}
use Rattle.btf_model.proofs.Texts.{has_bytes, some_mapped, added_text, text_stays, no_bytes}
use Rattle.btf_rewrite_model.specs.Pass.{is_builtin, builtins}
use Rattle.btf_table.specs.Builtins.{begins_builtin}
use Rattle.btf_table.specs.Readable.{HasNameAt, IsComparable}

-- ---- the place of a zero byte

-- the first zero byte is no later than any
first_up_to : (xs : List ℕ) (k : ℕ) → is_zero (get_or xs k 0) ≡ true → position_or_len is_zero xs ≤ k
first_up_to xs k zero_at =
    ⊎_elim
    (λ (same : position_or_len is_zero xs ≡ k). omega (arith, same))
    (λ (other : (position_or_len is_zero xs < k) ⊎ (k < position_or_len is_zero xs)).
    ⊎_elim (λ (less : position_or_len is_zero xs < k). omega (arith, less)) (λ (more : k < position_or_len is_zero xs). absurd (false≢true (sym (fails_before_first is_zero xs k 0 more) ∙ zero_at))) other)
    (cases_order (position_or_len is_zero xs) k)

-- with a zero byte at an offset or after it, there is a text
pub text_there : (strings : List ℕ) (offset last : ℕ) → offset ≤ last → last < length strings → is_zero (get_or strings last 0) ≡ true → (text : List ℕ) × (text_at strings offset ≡ Ok text)
text_there strings offset last low lt zero_at =
    let rest : List ℕ = drop offset strings in
    let place : offset + (last - offset) ≡ last = omega (arith, low) in
    let at : is_zero (get_or rest (last - offset) 0) ≡ true = ap is_zero (get_or-drop offset strings (last - offset) 0 ∙ ap (λ (n : ℕ). get_or strings n 0) place) ∙ zero_at in
    let within : position_or_len is_zero rest < length rest = omega (arith, first_up_to rest (last - offset) at, low, lt, length-drop offset strings) in
    let found : position is_zero rest ≡ Some (position_or_len is_zero rest) = ap (λ (b : Bool). cond b (Some (position_or_len is_zero rest)) None) (lt-ltb (position_or_len is_zero rest) (length rest) within) in
    (lossy (take (position_or_len is_zero rest) rest), ap (λ (o : Option ℕ). text_of offset (option_map (λ end. take end rest) o)) found)

-- without a zero byte there is no text
pub no_text : (strings : List ℕ) (offset end : ℕ) → end ≤ offset → ((k : ℕ) → end ≤ k → k < length strings → is_zero (get_or strings k 0) ≡ false) → text_at strings offset ≡ Err (InvalidStringOffset offset)
no_text strings offset end high none =
    ap (text_of offset) (no_bytes strings offset (drop offset strings) refl
    (λ k lt. ap is_zero (get_or-drop offset strings k 0) ∙ none (offset + k) (omega (arith, high)) (omega (arith, lt, length-drop offset strings))))

-- ---- texts that are read as they are

-- UTF-8 is read as itself
whole_is : (bs : List ℕ) → utf8_valid_len bs ≡ length bs → utf8_lossy bs ≡ bs
unfolding utf8_lossy
whole_is [] is = refl
whole_is (b ∷ bs) is = rw (eq-eqb (utf8_valid_len (b ∷ bs)) (length (b ∷ bs)) is) refl

abbrev has_mark : List ℕ → Bool
has_mark = list_any (λ (b : ℕ). b == 0xEF)

or_true : (a : Bool) → (a || true) ≡ true
or_true true = refl
or_true false = refl

-- bytes that are read as a text without the first byte of U+FFFD are this text
plain_text : (bs text : List ℕ) → has_mark text ≡ false → lossy bs ≡ text → bs ≡ text
plain_text bs text unmarked is = by_cases (utf8_valid_len bs == length bs) refl
  where
    read : utf8_lossy bs ≡ text
    read = sym (lossy_chars-utf8_lossy bs) ∙ is

    by_cases : (b : Bool) → (utf8_valid_len bs == length bs) ≡ b → bs ≡ text
    by_cases true whole = sym (whole_is bs (eqb-true (utf8_valid_len bs) (length bs) whole)) ∙ read
    by_cases false cut =
        let front : List ℕ = take (utf8_valid_len bs) bs in
        let behind : List ℕ = utf8_lossy (after_first_chunk bs) in
        let step : utf8_lossy bs ≡ front ++ (replacement_bytes ++ behind) = utf8_lossy_step bs (λ e. false≢true (sym cut ∙ eq-eqb (utf8_valid_len bs) (length bs) e)) in
        let marked : has_mark text ≡ true = ap has_mark (sym read ∙ step) ∙ list_any-append (λ (b : ℕ). b == 0xEF) front (replacement_bytes ++ behind) ∙ or_true (has_mark front) in
        absurd (false≢true (sym unmarked ∙ marked))

-- ---- names at the front of strings

-- a name that is read as itself and has no zero byte
abbrev IsPlain : List ℕ → Type 0
IsPlain name = (has_mark name ≡ false) × (list_all (λ b. nat_lt b 128) name ≡ true) × (list_any is_zero name ≡ false)

ascii_is : (xs : List ℕ) → list_all (λ b. nat_lt b 128) xs ≡ true → IsUtf8 xs
ascii_is xs all =
    IsUtf8-from_ascii xs (IsAscii-from_reads xs (length xs) (omega arith)
    (λ k lt. ltb-true (get_or xs k 0) 128 (true_from_ne_false (nat_lt (get_or xs k 0) 128) (λ no. false≢true (sym (list_all_at (λ b. nat_lt b 128) xs k 0 lt no) ∙ all)))))

no_zero : (xs : List ℕ) → list_any is_zero xs ≡ false → ¬ (Contains xs 0)
no_zero xs none has = absurd (false≢true (sym none ∙ list_any_at is_zero xs has.0 0 has.1 (ap is_zero has.2)))

-- a name that strings begin with, with its zero byte, is their text
name_is : (strings name text rest : List ℕ) → IsUtf8 name → ¬ (Contains name 0) → text_at strings 0 ≡ Ok text → strings ≡ name ++ 0 ∷ rest → text ≡ name
name_is strings name text rest utf8 none is begins =
    let there : text_at ((name ++ 0 ∷ []) ++ rest) 0 ≡ Ok name = text_stays (name ++ 0 ∷ []) rest 0 name (added_text [] name utf8 none) in
    same_ok {E = Refusal} text name (sym is ∙ ap (λ (xs : List ℕ). text_at xs 0) (begins ∙ sym (append_assoc name (0 ∷ []) rest)) ∙ there)

-- and strings whose text is a name without U+FFFD begin with it
name_begins : (strings name text : List ℕ) → has_mark name ≡ false → text_at strings 0 ≡ Ok text → text ≡ name → (rest : List ℕ) × (strings ≡ name ++ 0 ∷ rest)
name_begins strings name text unmarked is equal =
    let b = has_bytes 0 (bytes_at strings 0) text is in
    let found = some_mapped (λ end. take end strings) (position is_zero strings) b.0 b.1 in
    let end : ℕ = found.0 in
    let at = position-Some is_zero strings end 0 found.1 in
    let front : take end strings ≡ name = found.2 ∙ plain_text b.0 name unmarked (b.2 ∙ equal) in
    let behind : List ℕ = drop (end + 1) strings in
    let cut : drop end strings ≡ 0 ∷ behind = drop_more strings end 0 at.0 ∙ ap (λ (n : ℕ). n ∷ behind) (eqb-true (get_or strings end 0) 0 at.1) in
    (behind, sym (take-append-drop end strings) ∙ ap (λ (xs : List ℕ). xs ++ drop end strings) front ∙ ap (λ (xs : List ℕ). name ++ xs) cut)

-- strings begin with a name and its zero byte if this name is their text
begins_is : (strings name text : List ℕ) → IsPlain name → text_at strings 0 ≡ Ok text → starts_with ◌==◌ strings (name ++ 0 ∷ []) ≡ bytes_eq text name
begins_is strings name text plain is = by_cases (starts_with ◌==◌ strings (name ++ 0 ∷ [])) (bytes_eq text name) refl refl
  where
    same : starts_with ◌==◌ strings (name ++ 0 ∷ []) ≡ true → text ≡ name
    same begins =
        let starts = starts_is Decides-eqb strings (name ++ 0 ∷ []) (starts_with ◌==◌ strings (name ++ 0 ∷ [])) refl in
        let rest : List ℕ = drop (length (name ++ 0 ∷ [])) strings in
        name_is strings name text rest (ascii_is name plain.1) (no_zero name plain.2) is (starts.0 begins ∙ append_assoc name (0 ∷ []) rest)

    begins : text ≡ name → starts_with ◌==◌ strings (name ++ 0 ∷ []) ≡ true
    begins equal =
        let starts = starts_is Decides-eqb strings (name ++ 0 ∷ []) (starts_with ◌==◌ strings (name ++ 0 ∷ [])) refl in
        let found = name_begins strings name text plain.0 is equal in
        starts.1 found.0 (found.1 ∙ sym (append_assoc name (0 ∷ []) found.0))

    by_cases : (a b : Bool) → starts_with ◌==◌ strings (name ++ 0 ∷ []) ≡ a → bytes_eq text name ≡ b → a ≡ b
    by_cases true true one two = refl
    by_cases false false one two = refl
    by_cases true false one two = absurd (false≢true (sym two ∙ (bytes_eq-Decides text name).1 (same one)))
    by_cases false true one two = absurd (false≢true (sym one ∙ begins ((bytes_eq-Decides text name).0 two)))

-- strings begin with one of these names if their text is one of them
begins_any : (strings text : List ℕ) (names : List (List ℕ)) → AllByRecursion IsPlain names → text_at strings 0 ≡ Ok text → list_any (λ name. starts_with ◌==◌ strings (name ++ 0 ∷ [])) names ≡ list_any (bytes_eq text) names
begins_any strings text [] plain is = refl
begins_any strings text (name ∷ names) plain is =
    ap (λ (b : Bool). b || list_any (λ n. starts_with ◌==◌ strings (n ++ 0 ∷ [])) names) (begins_is strings name text plain.0 is)
    ∙ ap (λ (b : Bool). bytes_eq text name || b) (begins_any strings text names plain.1 is)

-- the text at an offset is the text at the front of the bytes from there on
from_front : (strings : List ℕ) (offset : ℕ) (text : List ℕ) → text_at strings offset ≡ Ok text → text_at (drop offset strings) 0 ≡ Ok text
from_front strings offset text is = let b = has_bytes offset (bytes_at strings offset) text is in ap (text_of 0) b.1 ∙ ap (λ (x : List ℕ). Ok x) b.2

none_marked : (xs : List ℕ) → ((k : ℕ) → k < length xs → get_or xs k 0 ≢ 0xEF) → has_mark xs ≡ false
none_marked [] h = refl
none_marked (x ∷ xs) h =
    ap (λ (b : Bool). b || has_mark xs) (false_from_ne_true (x == 0xEF) (λ e. h 0 (omega arith) (eqb-true x 0xEF e)))
    ∙ none_marked xs (λ k lt. h (suc k) (omega (arith, lt)))

-- a comparable name is at an offset exactly if it is the text there
pub text_is_name : (strings name text : List ℕ) (offset : ℕ) → IsUtf8 name → IsComparable name → text_at strings offset ≡ Ok text → HasNameAt strings offset name → text ≡ name
text_is_name strings name text offset utf8 comparable is has =
    name_is (drop offset strings) name text has.0 utf8 (λ found. absurd ((comparable found.0 found.1).0 found.2)) (from_front strings offset text is) has.1

pub name_at_text : (strings name text : List ℕ) (offset : ℕ) → IsComparable name → text_at strings offset ≡ Ok text → text ≡ name → HasNameAt strings offset name
name_at_text strings name text offset comparable is equal =
    name_begins (drop offset strings) name text (none_marked name (λ k lt. (comparable k lt).1)) (from_front strings offset text is) equal

-- the bytes are a name and a zero byte if they are the name and the byte after it is zero
pub name_and_zero : (rest name after : List ℕ) (byte : ℕ) → rest ≡ name ++ after → Some byte ≡ slice_get after 0 → ((byte == 0) ≡ true → (more : List ℕ) × (rest ≡ name ++ 0 ∷ more)) × ((more : List ℕ) × (rest ≡ name ++ 0 ∷ more) → (byte == 0) ≡ true)
name_and_zero rest name [] byte is first = absurd (none-some byte (sym first))
name_and_zero rest name (x ∷ after) byte is first =
    let same : byte ≡ x = same_Some byte x first in (
      λ t. (after, is ∙ ap (λ (n : ℕ). name ++ n ∷ after) (sym same ∙ eqb-true byte 0 t)),
      λ has. ap (λ (n : ℕ). n == 0) same ∙ same_Some (x == 0) true (ap (option_map (λ n. n == 0)) (ap (λ (xs : List ℕ). slice_get xs 0) (append_cancel_left name (x ∷ after) (0 ∷ has.0) (sym is ∙ has.1)))),
    )

pub builtin_is : (strings : List ℕ) (offset : ℕ) (text : List ℕ) → text_at strings offset ≡ Ok text → begins_builtin (drop offset strings) ≡ is_builtin text
builtin_is strings offset text is =
    begins_any (drop offset strings) text builtins ((refl, refl, refl), ((refl, refl, refl), ((refl, refl, refl), ((refl, refl, refl), tt)))) (from_front strings offset text is)
