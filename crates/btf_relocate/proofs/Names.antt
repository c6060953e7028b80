-- Essential names: where the last flavor begins.
use Rattle.std.proofs.Common.{take_all, length-drop, ◌≡◌, ℕ, zero, suc, ◌+◌, ◌-◌, ◌<◌, ◌≤◌, List, [], ◌∷◌, ◌++◌, length, drop, take, Bool, true, false, true≢false, refl, sym, ap, ◌∙◌, arith}
use Rattle.std.specs.Prelude.{◌&&◌, not, if◌then◌else◌}
use Rattle.std.specs.Str.{bytes_eq}
use Rattle.std.proofs.lemmas.Slice.Eq.{bytes_eq-Decides}
use Rattle.btf_relocate_model.specs.Name.{separates, has_flavor, essential}

-- a flavor that begins at a place begins somewhere
begins : (name : List ℕ) (i : ℕ) → separates (drop i name) ≡ true → has_flavor name ≡ true
begins [] zero h = h
begins [] (suc i) h = h
begins (x ∷ name) zero h = rw h refl
begins (x ∷ name) (suc i) h =
    elim (separates (x ∷ name)) as (λ b. (if b then true else has_flavor name) ≡ true) [ true ↦ refl | false ↦ begins name i h ]

-- the name without its last flavor, which begins after the byte at a place
pub essential_cut : (name : List ℕ) (i : ℕ) → i < length name → separates (drop i name) ≡ true → has_flavor (drop (suc i) name) ≡ false → essential name ≡ take (suc i) name
essential_cut [] i lt at none = absurd (omega (arith, lt))
essential_cut (x ∷ name) zero lt at none = rw (at, none) refl
essential_cut (x ∷ name) (suc i) lt at none =
    let there : has_flavor name ≡ true = begins name i at in
    let rest : essential name ≡ take (suc i) name = essential_cut name i (omega (arith, lt)) at none in
    elim (separates (x ∷ name)) as (λ b. (if b && not (has_flavor name) then x ∷ [] else x ∷ essential name) ≡ x ∷ take (suc i) name) [
      | true ↦ rw there (ap (λ (n : List ℕ). x ∷ n) rest)
      | false ↦ ap (λ (n : List ℕ). x ∷ n) rest
    ]

-- a name without a flavor is essential
pub essential_whole : (name : List ℕ) → has_flavor name ≡ false → essential name ≡ name
essential_whole [] none = refl
essential_whole (x ∷ name) none =
    elim (separates (x ∷ name)) as (λ b. (if b then true else has_flavor name) ≡ false → (if b && not (has_flavor name) then x ∷ [] else x ∷ essential name) ≡ x ∷ name) [
      | true ↦ λ absurdity. cc
      | false ↦ λ rest. ap (λ (n : List ℕ). x ∷ n) (essential_whole name rest)
    ] none

-- one more place that is no flavor's
pub no_flavor_more : (name : List ℕ) (i : ℕ) → i < length name → separates (drop i name) ≡ false → has_flavor (drop (suc i) name) ≡ false → has_flavor (drop i name) ≡ false
no_flavor_more [] i lt at none = absurd (omega (arith, lt))
no_flavor_more (x ∷ name) zero lt at none = rw at none
no_flavor_more (x ∷ name) (suc i) lt at none = no_flavor_more name i (omega (arith, lt)) at none

-- ---- the loop, which goes down from the end of the name

-- four bytes have no flavor
pub no_room : (name : List ℕ) → length name ≤ 4 → has_flavor name ≡ false
no_room [] le = refl
no_room (a ∷ []) le = refl
no_room (a ∷ b ∷ []) le = refl
no_room (a ∷ b ∷ c ∷ []) le = refl
no_room (a ∷ b ∷ c ∷ d ∷ []) le = refl
no_room (a ∷ b ∷ c ∷ d ∷ e ∷ name) le = absurd (omega (arith, le))

from_here : (name : List ℕ) (n i : ℕ) → n ≡ suc i → n ≤ length name → (take (length name - (n - 1)) (drop (n - 1) name)) ≡ drop i name
from_here name n i is le = let there : n - 1 ≡ i = omega (arith, is) in rw there (take_all (length name - i) (drop i name) (omega (arith, length-drop i name)))

pub cut_before : (name : List ℕ) (n : ℕ) → 0 < n → n ≤ length name → (b : Bool) → b ≡ separates (take (length name - (n - 1)) (drop (n - 1) name)) → b ≡ true → has_flavor (drop n name) ≡ false
    → take (n - 1 + 1) name ≡ essential name
cut_before name zero pos le b is cut none = absurd (omega (arith, pos))
cut_before name (suc i) pos le b is cut none =
    let here : separates (drop i name) ≡ true = ap separates (sym (from_here name (suc i) i refl le)) ∙ sym is ∙ cut in
    let same : suc i - 1 + 1 ≡ suc i = omega arith in
    rw same (sym (essential_cut name i (omega (arith, le)) here none))

pub one_less : (name : List ℕ) (n : ℕ) → 0 < n → n ≤ length name → (b : Bool) → b ≡ separates (take (length name - (n - 1)) (drop (n - 1) name)) → b ≡ false → has_flavor (drop n name) ≡ false
    → has_flavor (drop (n - 1) name) ≡ false
one_less name zero pos le b is past none = absurd (omega (arith, pos))
one_less name (suc i) pos le b is past none =
    let here : separates (drop i name) ≡ false = ap separates (sym (from_here name (suc i) i refl le)) ∙ sym is ∙ past in
    let same : suc i - 1 ≡ i = omega arith in
    rw same (no_flavor_more name i (omega (arith, le)) here none)

pub whole : (name : List ℕ) (n : ℕ) → n ≤ 0 → has_flavor (drop n name) ≡ false → name ≡ essential name
whole name zero le none = sym (essential_whole name none)
whole name (suc i) le none = absurd (omega (arith, le))

-- ---- a name begins with its essential name

pub left_out : (name : List ℕ) → (rest : List ℕ) × (name ≡ essential name ++ rest)
left_out [] = ([], refl)
left_out (x ∷ name) =
    let more = left_out name in
    elim (separates (x ∷ name) && not (has_flavor name)) as (λ b. (rest : List ℕ) × (x ∷ name ≡ (if b then x ∷ [] else x ∷ essential name) ++ rest)) [
      | true ↦ (name, refl)
      | false ↦ (more.0, ap (λ (n : List ℕ). x ∷ n) more.1)
    ]

-- so a name that begins otherwise has another essential name
pub begins_otherwise : (name own : List ℕ) (b : Bool) → ((rest : List ℕ) → own ≡ name ++ rest → b ≡ true) → b ≡ false → bytes_eq (essential own) name ≡ false
begins_otherwise name own b starts other =
    let more = left_out own in
    elim (bytes_eq (essential own) name) as (λ e. bytes_eq (essential own) name ≡ e → e ≡ false) [
      | true ↦ λ same.
          let one : essential own ≡ name = (bytes_eq-Decides (essential own) name).0 same in
          absurd (true≢false (sym (starts more.0 (more.1 ∙ ap (λ (n : List ℕ). n ++ more.0) one)) ∙ other))
      | false ↦ λ same. refl
    ] refl
