-- Names of which at most a limit of bytes is read.
use Rattle.std.proofs.Common.{◌≡◌, ℕ, ◌<◌, ◌≤◌, ⊎_elim, Bool, true, false, cond, List, length, take, get_or, None, Some, refl, sym, ap, ◌∙◌, arith}
use Rattle.std.specs.Prelude.{nat_lt, min, position, not}
use Rattle.std.specs.List.{before_first, position_or_len}
use Rattle.std.proofs.lemmas.Bool.{both_ways, cases_lt, ltb-false}
use Rattle.std.proofs.lemmas.List.{length-take, length-take-le, take_all, get_or-take}
use Rattle.std.proofs.lemmas.List.Quantifiers.{position-Some}
use Rattle.std.proofs.lemmas.List.Sums.{position_or_len_is, fails_before_first, passes_at_first, prefix_len-le-length}
use Rattle.std.proofs.lemmas.Option.{none-some}
use Rattle.btf_elf_model.specs.Section.{ends_name}

-- the length, if no byte passes the test
pub none_or_len : {X : Type 0} (p : X → Bool) (xs : List X) → position p xs ≡ None → position_or_len p xs ≡ length xs
none_or_len p xs is =
    elim (nat_lt (position_or_len p xs) (length xs)) as (λ (b : Bool). nat_lt (position_or_len p xs) (length xs) ≡ b → cond b (Some (position_or_len p xs)) None ≡ None → position_or_len p xs ≡ length xs) [
      | true ↦ λ below some. absurd (none-some (position_or_len p xs) (sym some))
      | false ↦ λ above none.
          let le : length xs ≤ position_or_len p xs = ltb-false (position_or_len p xs) (length xs) above in
          let most : position_or_len p xs ≤ length xs = prefix_len-le-length (λ x. not (p x)) xs in omega (arith, le, most)
    ] refl is

-- the first zero byte of the front is the first of all
pub zero_in_front : (limit : ℕ) (rest : List ℕ) (len : ℕ) → position ends_name (take limit rest) ≡ Some len → (len ≤ length rest) × (len < limit) × (before_first ends_name rest ≡ take len rest)
zero_in_front limit rest len at =
    let found = position-Some ends_name (take limit rest) len 0 at in
    let len_of : length (take limit rest) ≡ min limit (length rest) = length-take limit rest in
    let all : length (take limit rest) ≤ length rest = omega (arith, len_of) in
    let most : length (take limit rest) ≤ limit = omega (arith, len_of) in
    let same : (k : ℕ) → k < limit → get_or (take limit rest) k 0 ≡ get_or rest k 0 = λ k lt. get_or-take limit rest k 0 lt in
    let len_is : position_or_len ends_name rest ≡ len =
    position_or_len_is ends_name rest len 0 (omega (arith, found.0, all)) (λ k lt. ap ends_name (sym (same k (omega (arith, lt, found.0, most)))) ∙ found.2 k lt) (λ _. ap ends_name (sym (same len (omega (arith, found.0, most)))) ∙ found.1) in
    (omega (arith, found.0, all), omega (arith, found.0, most), ap (λ (n : ℕ). take n rest) len_is)

-- if there is no zero byte in the front, and the front is all bytes, the name is all bytes
pub all_of_it : (limit : ℕ) (rest : List ℕ) → position ends_name (take limit rest) ≡ None → length rest < limit → before_first ends_name rest ≡ rest
all_of_it limit rest none short =
    let whole : take limit rest ≡ rest = take_all limit rest (omega (arith, short)) in
    let len_is : position_or_len ends_name rest ≡ length rest = none_or_len ends_name rest (ap (position ends_name) (sym whole) ∙ none) in
    take_all (position_or_len ends_name rest) rest (omega (arith, len_is))

-- if there is no zero byte in the front, and there are bytes after it, the name is too long
pub long_name : (limit : ℕ) (rest : List ℕ) → position ends_name (take limit rest) ≡ None → limit ≤ length rest → limit ≤ length (before_first ends_name rest)
long_name limit rest none long =
    let first : ℕ = position_or_len ends_name rest in
    let front_len : length (take limit rest) ≡ limit = length-take-le limit rest long in
    let none_there : position_or_len ends_name (take limit rest) ≡ length (take limit rest) = none_or_len ends_name (take limit rest) none in
    let within : first ≤ length rest = prefix_len-le-length (λ x. not (ends_name x)) rest in
    let name_len : length (take first rest) ≡ first = length-take-le first rest within in
    ⊎_elim
    (λ short. absurd (both_ways (ends_name (get_or rest first 0))
    (ap ends_name (sym (get_or-take limit rest first 0 short)) ∙ fails_before_first ends_name (take limit rest) first 0 (omega (arith, short, front_len, none_there)))
    (passes_at_first ends_name rest 0 (omega (arith, short, long)))))
    (λ le. omega (arith, le, name_len))
    (cases_lt first limit)
