-- Access strings, part by part.
use Rattle.std.proofs.Common.{inl, inr, cond, ◌-◌}
use Rattle.std.specs.Prelude.{◌⊎◌, nat_le, nat_lt, ◌&&◌}
use Rattle.std.specs.Char.{is_ascii_digit, digit_value}
use Rattle.std.specs.List.{slice_split, list_all}
use Rattle.std.specs.Str.Parse.{digits_value}
use Rattle.std.proofs.lemmas.Bool.Decides.{nat_tests}
use Rattle.std.proofs.lemmas.List.{append-nil}
use Rattle.std.proofs.lemmas.Str.Parse.{digits_value-take-le}
use Rattle.std.proofs.Common.{◌≡◌, ℕ, ◌+◌, ◌<◌, ◌≤◌, List, [], ◌∷◌, ◌++◌, length, take, true, false, refl, sym, ap, ◌∙◌, arith, append_assoc, Option, Some, None}
use Rattle.btf_relocate_model.specs.Access.{with_index, indices_of, index_of, access_of, access_limit, index_limit, is_colon}

-- indices in front of others, if there are any
abbrev pub joined : List ℕ → Option (List ℕ) → Option (List ℕ)
joined front (Some is) = Some (front ++ is)
joined front None = None

-- a part that spells an index, in front of other parts
pub joined_part : (front : List ℕ) (part : List ℕ) (parts : List (List ℕ)) (i : ℕ) → index_of part ≡ Some i → joined front (indices_of (part ∷ parts)) ≡ joined (front ++ i ∷ []) (indices_of parts)
joined_part front part parts i is =
    rw is (elim (indices_of parts) as (λ o. joined front (with_index (Some i) o) ≡ joined (front ++ i ∷ []) o) [
      | Some is ↦ ap (λ (xs : List ℕ). Some xs) (sym (append_assoc front (i ∷ []) is))
      | None ↦ refl
    ])

-- a part that spells none
pub no_index : (front : List ℕ) (part : List ℕ) (parts : List (List ℕ)) → index_of part ≡ None → joined front (indices_of (part ∷ parts)) ≡ None
no_index front part parts is = rw is refl

-- a text whose parts, from one on, are not all indices, or are too many
pub no_access : (text front part : List ℕ) (parts : List (List ℕ)) → joined front (indices_of (part ∷ parts)) ≡ indices_of (slice_split is_colon text)
    → length front + length (part ∷ parts) ≡ length (slice_split is_colon text) → ((index_of part ≡ None) ⊎ (length front ≡ access_limit)) → access_of text ≡ None
no_access text front part parts is count (inl none) =
    let refused : indices_of (slice_split is_colon text) ≡ None = sym is ∙ no_index front part parts none in
    rw refused (elim (nat_le (length (slice_split is_colon text)) access_limit) as (λ b. cond {A = Option (List ℕ)} b None None ≡ None) [ true ↦ refl | false ↦ refl ])
no_access text front part parts is count (inr full) =
    let many : nat_le (length (slice_split is_colon text)) access_limit ≡ false = grind (arith, nat_tests) in
    rw many refl

-- a text whose parts are all indices
pub is_access : (text is : List ℕ) → joined is (indices_of []) ≡ indices_of (slice_split is_colon text) → length (slice_split is_colon text) ≤ access_limit → access_of text ≡ Some is
is_access text is all room =
    let few : nat_le (length (slice_split is_colon text)) access_limit ≡ true = grind (arith, nat_tests) in
    let whole : indices_of (slice_split is_colon text) ≡ Some is = sym all ∙ ap (λ (xs : List ℕ). Some xs) (append-nil is) in
    rw (few, whole) refl

-- the number of digits whose number is above the limit
pub too_great : (part : List ℕ) (i : ℕ) → index_limit < digits_value 10 (take (i + 1) part) → index_of part ≡ None
too_great part i above =
    let le : digits_value 10 (take (i + 1) part) ≤ digits_value 10 part = digits_value-take-le 10 part (i + 1) (omega arith) in
    let out : nat_le (digits_value 10 part) index_limit ≡ false = grind (arith, nat_tests) in
    rw out (elim (nat_lt 0 (length part) && list_all is_ascii_digit part) as (λ b. cond {A = Option ℕ} (b && false) (Some (digits_value 10 part)) None ≡ None) [ true ↦ refl | false ↦ refl ])

-- a digit, as a number
pub digit_is : (c : ℕ) → is_ascii_digit c ≡ true → digit_value c ≡ c - 48
digit_is c is = grind (arith, nat_tests)
