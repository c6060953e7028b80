-- The words of an item in an array of three.
use Rattle.std.proofs.Common.{◌≡◌, ◌⊎◌, inl, inr, ℕ, ◌<◌, ◌≤◌, List, [], ◌∷◌, ◌++◌, length, take, drop, sym, ap, ◌∙◌, arith}
use Rattle.std.proofs.lemmas.List.{length-append, length-take-le, take-append-drop, take-append-le, take_at}
use Rattle.btf_plain.specs.ReadItems.{padded}

-- an item of three words fills the array
pub padded_whole : (w : ℕ) (ws : List ℕ) → length ws ≡ w → (w ≡ 2) ⊎ (w ≡ 3) → (w ≡ 2 → ⊥) → padded ws ≡ ws
padded_whole w ws len (inl two) longer = absurd (longer two)
padded_whole w ws len (inr three) longer = take_at ws (0 ∷ []) 3 (len ∙ three)

first_of_three : (w : ℕ) (ws : List ℕ) → length ws ≡ w → 2 ≤ w → w ≤ 3 → take w (padded ws) ≡ ws
first_of_three w ws len wide narrow =
    let all = ws ++ 0 ∷ [] in
    let long : 3 ≤ length all = omega (arith, length-append ws (0 ∷ []), len, wide) in
    let enough : w ≤ length (take 3 all) = omega (arith, length-take-le 3 all long, narrow) in
    sym (take-append-le w (take 3 all) (drop 3 all) enough) ∙ ap (take w) (take-append-drop 3 all) ∙ take_at ws (0 ∷ []) w len

-- the words of an item are the first words of the array
pub first_words : (w : ℕ) (ws : List ℕ) → length ws ≡ w → (w ≡ 2) ⊎ (w ≡ 3) → take w (padded ws) ≡ ws
first_words w ws len (inl two) = first_of_three w ws len (omega (arith, two)) (omega (arith, two))
first_words w ws len (inr three) = first_of_three w ws len (omega (arith, three)) (omega (arith, three))

-- an item has a word
pub some_word : (w : ℕ) → (w ≡ 2) ⊎ (w ≡ 3) → 0 < w
some_word w (inl two) = omega (arith, two)
some_word w (inr three) = omega (arith, three)
