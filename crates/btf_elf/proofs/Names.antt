-- The comparison of two names, which reads one byte more than the other name has.
use Rattle.std.proofs.Common.{◌≡◌, ◌∙◌, ℕ, suc, ◌+◌, Bool, true, false, cond, List, [], ◌∷◌, length, take, drop, refl, sym, ap, arith}
use Rattle.std.specs.Prelude.{not, min, nat_eq, ◌&&◌}
use Rattle.std.specs.List.{before_first, position_or_len}
use Rattle.std.specs.Str.{bytes_eq}
use Rattle.std.proofs.lemmas.List.{take_min}
use Rattle.btf_elf_model.specs.Section.{ends_name, string_from}

-- the elements before the first one that passes the test, by cases on the list
before_first-cons : {X : Type 0} (p : X → Bool) (x : X) (xs : List X) → before_first p (x ∷ xs) ≡ cond (p x) [] (x ∷ before_first p xs)
before_first-cons p x xs =
    let more : 1 + position_or_len p xs ≡ suc (position_or_len p xs) = omega arith in
    elim (p x) as (λ b. take (cond (not b) (1 + position_or_len p xs) 0) (x ∷ xs) ≡ cond b [] (x ∷ before_first p xs)) [
      | true ↦ refl
      | false ↦ ap (λ (n : ℕ). take n (x ∷ xs)) more
    ]

-- the front of the bytes determines whether the name in them is the other name
same_front : (xs name : List ℕ) → bytes_eq (before_first ends_name (take (suc (length name)) xs)) name ≡ bytes_eq (before_first ends_name xs) name
same_front [] name = refl
same_front (x ∷ xs) [] =
    ap (λ (ys : List ℕ). bytes_eq ys []) (before_first-cons ends_name x []) ∙ one (ends_name x) ∙ sym (ap (λ (ys : List ℕ). bytes_eq ys []) (before_first-cons ends_name x xs))
  where
    one : (b : Bool) → bytes_eq (cond b [] (x ∷ [])) [] ≡ bytes_eq (cond b [] (x ∷ before_first ends_name xs)) []
    one true = refl
    one false = refl
same_front (x ∷ xs) (c ∷ cs) =
    ap (λ (ys : List ℕ). bytes_eq ys (c ∷ cs)) (before_first-cons ends_name x (take (suc (length cs)) xs))
    ∙ more (ends_name x) (same_front xs cs)
    ∙ sym (ap (λ (ys : List ℕ). bytes_eq ys (c ∷ cs)) (before_first-cons ends_name x xs))
  where
    more : (b : Bool) → bytes_eq (before_first ends_name (take (suc (length cs)) xs)) cs ≡ bytes_eq (before_first ends_name xs) cs
        → bytes_eq (cond b [] (x ∷ before_first ends_name (take (suc (length cs)) xs))) (c ∷ cs) ≡ bytes_eq (cond b [] (x ∷ before_first ends_name xs)) (c ∷ cs)
    more true same = refl
    more false same = ap (λ (e : Bool). nat_eq x c && e) same

pub has_name_lem : (strings name : List ℕ) (offset : ℕ)
    → bytes_eq (before_first ends_name (take (min (length name + 1) (length (drop offset strings))) (drop offset strings))) name
    ≡ bytes_eq (string_from strings offset) name
unfolding string_from
has_name_lem strings name offset =
    let rest = drop offset strings in
    let one : length name + 1 ≡ suc (length name) = omega arith in
    ap (λ (ys : List ℕ). bytes_eq (before_first ends_name ys) name) (take_min (length name + 1) rest ∙ ap (λ (n : ℕ). take n rest) one)
    ∙ same_front rest name
