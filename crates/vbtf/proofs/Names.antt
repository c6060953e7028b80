-- The beginning of a name in a buffer.
use Rattle.std.proofs.Common.{◌≡◌, ℕ, zero, suc, List, [], ◌∷◌, ◌++◌, take, length, refl, sym, ap, ◌∙◌}
use Rattle.std.proofs.Math.Seq.{take-append_seam}

-- the first bytes of a list, by the length of a prefix, are that prefix
pub take_taken : (k : ℕ) (xs : List ℕ) → take (length (take k xs)) xs ≡ take k xs
take_taken zero xs = refl
take_taken (suc k) [] = refl
take_taken (suc k) (x ∷ xs) = ap (λ (ys : List ℕ). x ∷ ys) (take_taken k xs)

-- a buffer that begins with a prefix of a name
pub front_of : (k n : ℕ) (name front back : List ℕ) → n ≡ length (take k name) → front ≡ take n name → take n (front ++ back) ≡ take k name
front_of k n name front back is same =
    let e : front ≡ take k name = same ∙ ap (λ (m : ℕ). take m name) is ∙ take_taken k name in
    let f : n ≡ length front = is ∙ ap (λ (ys : List ℕ). length ys) (sym e) in
    ap (λ (m : ℕ). take m (front ++ back)) f ∙ take-append_seam front back ∙ e
