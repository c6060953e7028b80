-- The parts of names before their flavors.
use Rattle.std.proofs.Common.{◌≡◌, ◌≢◌, ℕ, zero, suc, ◌+◌, ◌<◌, ◌≤◌, List, [], ◌∷◌, length, take, drop, refl, ap, ◌∙◌, arith}
use Rattle.std.specs.Prelude.{if◌then◌else◌}
use Rattle.std.specs.Str.{bytes_eq}
use Rattle.std.proofs.lemmas.Bool.{false_from_ne_true}
use Rattle.std.proofs.lemmas.List.{length-take, length-drop}
use Rattle.std.proofs.lemmas.Slice.Eq.{bytes_eq-Decides}
use Rattle.btf_model.specs.Fields.{flavor_mark, before_flavor}

-- a mark that begins here ends the name
at_mark : (byte : ℕ) (name : List ℕ) → take 3 (byte ∷ name) ≡ flavor_mark → before_flavor (byte ∷ name) ≡ []
at_mark byte name is = ap (λ b. if b then [] else byte ∷ before_flavor name) ((bytes_eq-Decides (take 3 (byte ∷ name)) flavor_mark).1 is)

-- else the byte is part of it
before_mark : (byte : ℕ) (name : List ℕ) → take 3 (byte ∷ name) ≢ flavor_mark → before_flavor (byte ∷ name) ≡ byte ∷ before_flavor name
before_mark byte name is =
    ap (λ b. if b then [] else byte ∷ before_flavor name) (false_from_ne_true (bytes_eq (take 3 (byte ∷ name)) flavor_mark) (λ e. is ((bytes_eq-Decides (take 3 (byte ∷ name)) flavor_mark).0 e)))

-- a mark has three bytes
not_short : (name : List ℕ) (i : ℕ) → length name < 3 → take 3 (drop i name) ≢ flavor_mark
not_short name i short at =
    let len : length (take 3 (drop i name)) ≡ 3 = ap length at in
    omega (arith, len, short, length-take 3 (drop i name), length-drop i name)

-- so there are three bytes at the place where a mark begins
pub mark_fits : (name : List ℕ) (i : ℕ) → take 3 (drop i name) ≡ flavor_mark → i + 3 ≤ length name
mark_fits name i at =
    let len : length (take 3 (drop i name)) ≡ 3 = ap length at in
    omega (arith, len, length-take 3 (drop i name), length-drop i name)

-- the first mark ends the name
pub flavor_begins : (name : List ℕ) (i : ℕ) → ((k : ℕ) → k < i → take 3 (drop k name) ≢ flavor_mark) → take 3 (drop i name) ≡ flavor_mark → before_flavor name ≡ take i name
flavor_begins [] i before at = absurd (not_short [] i (omega arith) at)
flavor_begins (byte ∷ name) zero before at = at_mark byte name at
flavor_begins (byte ∷ name) (suc i) before at =
    before_mark byte name (before zero (omega arith)) ∙ ap (λ (xs : List ℕ). byte ∷ xs) (flavor_begins name i (λ k lt. before (suc k) (omega (arith, lt))) at)

-- a name without a mark is whole
pub no_flavor : (name : List ℕ) → ((k : ℕ) → k < length name + 1 → take 3 (drop k name) ≢ flavor_mark) → before_flavor name ≡ name
no_flavor [] none = refl
no_flavor (byte ∷ name) none = before_mark byte name (none zero (omega arith)) ∙ ap (λ (xs : List ℕ). byte ∷ xs) (no_flavor name (λ k lt. none (suc k) (omega (arith, lt))))
