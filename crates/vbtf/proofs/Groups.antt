-- The words of an item of a list, among the words of all.
use Rattle.std.proofs.Common.{◌≡◌, ◌∙◌, ◌<◌, ◌*◌, ℕ, suc, List, ◌∷◌, Some, arith, ap, length, take, drop}
use Rattle.std.specs.Prelude.{slice_get}
use Rattle.std.specs.List.{flat_map}
use Rattle.std.proofs.Math.Seq.{drop-cons}
use Rattle.std.proofs.lemmas.List.{take_at}
use Rattle.std.proofs.lemmas.Option.{slice_get_within, get_or_from_slice_get}
use Rattle.btf_plain.proofs.Lists.{words_after}

-- a list from an element on
from_element : {X : Type 0} (xs : List X) (i : ℕ) (x : X) → slice_get xs i ≡ Some x → drop i xs ≡ x ∷ drop (suc i) xs
from_element xs i x is =
    drop-cons xs i x (slice_get_within xs i x is) ∙ ap (λ y. y ∷ drop (suc i) xs) (get_or_from_slice_get xs i x x is)

-- the group of an index is the words of the element of that index
pub group_at : {X : Type 0} (k : ℕ) (f : X → List ℕ) → ((x : X) → length (f x) ≡ k) → (xs : List X) (i : ℕ) (x : X)
    → slice_get xs i ≡ Some x → take k (drop (k * i) (flat_map f xs)) ≡ f x
group_at k f width xs i x is =
    let lt : i < length xs = slice_get_within xs i x is in
    ap (take k) (words_after k f width xs i (omega (arith, lt)) ∙ ap (flat_map f) (from_element xs i x is))
    ∙ take_at (f x) (flat_map f (drop (suc i) xs)) k (width x)
