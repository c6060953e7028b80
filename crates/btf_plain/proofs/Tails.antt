-- The number of items of a list, by the number of their words.
use Rattle.std.proofs.Common.{◌≡◌, ℕ, ◌*◌, ◌/◌, ◌<◌, List, length, sym, ap, ◌∙◌}
use Rattle.std.specs.List.{flat_map}
use Rattle.std.proofs.Math.Nat.{mul-div_cancel_left}
use Rattle.btf_plain.proofs.Lists.{length-items}

same_count : (w m n : ℕ) → 0 < w → w * m ≡ w * n → m ≡ n
same_count w m n wide same = sym (mul-div_cancel_left m wide) ∙ ap (λ (x : ℕ). x / w) same ∙ mul-div_cancel_left n wide

pub items_counted : {X : Type 0} (w : ℕ) (f : X → List ℕ) → ((x : X) → length (f x) ≡ w) → 0 < w → (xs : List X) (v : ℕ) → length (flat_map f xs) ≡ w * v → length xs ≡ v
items_counted w f each wide xs v is = same_count w (length xs) v wide (sym (length-items w f each xs) ∙ is)
