-- Slices of bytes that were partly overwritten.
use Rattle.std.proofs.Common.{◌≡◌, ◌∙◌, ℕ, zero, suc, ◌+◌, ◌-◌, ◌≤◌, List, [], ◌∷◌, ◌++◌, length, take, drop, refl, sym, ap, arith, ⊎_elim}
use Rattle.std.proofs.lemmas.List.{append_assoc, take-append-drop, take-append-le, drop-append-le, take-take, drop-take, drop-drop, length-append, length-take-le, length-drop}
use Rattle.std.proofs.Math.Seq.{drop-append-add}
use Rattle.btf_model.specs.Blob.{slice}
use Rattle.btf_elf_model.specs.Replaced.{Apart}
use Rattle.btf_elf.specs.Writing.{put}

-- a write to a part of a slice
pub put_is : (at k : ℕ) (xs ys new : List ℕ) → ys ≡ new → k ≡ length new → take at xs ++ (ys ++ drop k (drop at xs)) ≡ put at new xs
unfolding put
put_is at k xs ys new p q =
    ap (λ (zs : List ℕ). take at xs ++ (zs ++ drop k (drop at xs))) p
    ∙ ap (λ (n : ℕ). take at xs ++ (new ++ drop n (drop at xs))) q
    ∙ ap (λ (zs : List ℕ). take at xs ++ (new ++ zs)) (drop-drop (length new) at xs)
    ∙ sym (append_assoc (take at xs) new (drop (at + length new) xs))

put_front : (at : ℕ) (ys xs : List ℕ) → put at ys xs ≡ take at xs ++ (ys ++ drop (at + length ys) xs)
unfolding put
put_front at ys xs = append_assoc (take at xs) ys (drop (at + length ys) xs)

put_back : (at : ℕ) (ys xs : List ℕ) → put at ys xs ≡ (take at xs ++ ys) ++ drop (at + length ys) xs
unfolding put
put_back at ys xs = refl

pub length-put : (at : ℕ) (ys xs : List ℕ) → at + length ys ≤ length xs → length (put at ys xs) ≡ length xs
length-put at ys xs le =
    ap length (put_front at ys xs)
    ∙ omega (
      arith,
      le,
      length-append (take at xs) (ys ++ drop (at + length ys) xs),
      length-append ys (drop (at + length ys) xs),
      length-take-le at xs (omega (arith, le)),
      length-drop (at + length ys) xs,
    )

-- a slice of a slice
pub slice-slice : (f k p n : ℕ) (xs : List ℕ) → f + k ≤ n → slice f k (slice p n xs) ≡ slice (p + f) k xs
slice-slice f k p n xs le =
    let split : n ≡ f + (n - f) = omega (arith, le) in
    ap (λ (m : ℕ). take k (drop f (take m (drop p xs)))) split
    ∙ ap (take k) (drop-take f (n - f) (drop p xs))
    ∙ take-take k (n - f) (drop f (drop p xs)) (omega (arith, le))
    ∙ ap (take k) (drop-drop f p xs)

-- a slice of the front of bytes
slice-take : (at len n : ℕ) (xs : List ℕ) → at + len ≤ n → slice at len (take n xs) ≡ slice at len xs
slice-take at len n xs le =
    let split : n ≡ at + (n - at) = omega (arith, le) in
    ap (λ (m : ℕ). take len (drop at (take m xs))) split
    ∙ ap (take len) (drop-take at (n - at) xs)
    ∙ take-take len (n - at) (drop at xs) (omega (arith, le))

pub slice-append : (at len : ℕ) (xs ys : List ℕ) → at + len ≤ length xs → slice at len (xs ++ ys) ≡ slice at len xs
slice-append at len xs ys le =
    ap (take len) (drop-append-le at xs ys (omega (arith, le)))
    ∙ take-append-le len (drop at xs) ys (omega (arith, le, length-drop at xs))

slice-put_before : (at len other : ℕ) (ys xs : List ℕ) → at + len ≤ other → other ≤ length xs → slice at len (put other ys xs) ≡ slice at len xs
slice-put_before at len other ys xs le within =
    ap (slice at len) (put_front other ys xs)
    ∙ slice-append at len (take other xs) (ys ++ drop (other + length ys) xs) (omega (arith, le, length-take-le other xs within))
    ∙ slice-take at len other xs le

slice-put_after : (at len other : ℕ) (ys xs : List ℕ) → other + length ys ≤ at → other ≤ length xs → slice at len (put other ys xs) ≡ slice at len xs
slice-put_after at len other ys xs le within =
    let head : List ℕ = take other xs ++ ys in
    let end : length head ≡ other + length ys = omega (arith, length-append (take other xs) ys, length-take-le other xs within) in
    let split : at ≡ length head + (at - length head) = omega (arith, le, end) in
    let back : (other + length ys) + (at - length head) ≡ at = omega (arith, le, end) in
    ap (slice at len) (put_back other ys xs)
    ∙ ap (λ (n : ℕ). take len (drop n (head ++ drop (other + length ys) xs))) split
    ∙ ap (take len) (drop-append-add head (drop (other + length ys) xs) (at - length head) ∙ drop-drop (at - length head) (other + length ys) xs)
    ∙ ap (λ (n : ℕ). take len (drop n xs)) back

put_nothing : (at : ℕ) (xs : List ℕ) → put at [] xs ≡ xs
put_nothing at xs =
    let none : at + 0 ≡ at = omega arith in
    put_front at [] xs ∙ ap (λ (n : ℕ). take at xs ++ drop n xs) none ∙ take-append-drop at xs

-- a write elsewhere does not change a slice
pub slice-put : (at len other : ℕ) (ys xs : List ℕ) → Apart at len other (length ys) → other + length ys ≤ length xs
    → slice at len (put other ys xs) ≡ slice at len xs
slice-put at zero other ys xs apart within = refl
slice-put at (suc len) other [] xs apart within = ap (slice at (suc len)) (put_nothing other xs)
slice-put at (suc len) other (y ∷ ys) xs apart within =
    ⊎_elim (λ le. slice-put_before at (suc len) other (y ∷ ys) xs le (omega (arith, within))) (λ le. slice-put_after at (suc len) other (y ∷ ys) xs le (omega (arith, within)))
    (apart (omega arith) (omega arith))

-- a slice of the written bytes
pub slice-put_same : (f k other : ℕ) (ys xs : List ℕ) → f + k ≤ length ys → other + length ys ≤ length xs → slice (other + f) k (put other ys xs) ≡ slice f k ys
slice-put_same f k other ys xs le within =
    let place : length (take other xs) ≡ other = length-take-le other xs (omega (arith, within)) in
    let rest : List ℕ = ys ++ drop (other + length ys) xs in
    ap (slice (other + f) k) (put_front other ys xs)
    ∙ ap (λ (n : ℕ). take k (drop (n + f) (take other xs ++ rest))) (sym place)
    ∙ ap (take k) (drop-append-add (take other xs) rest f)
    ∙ slice-append f k ys (drop (other + length ys) xs) le
