-- Elements of lists by their indices, and the size of a pointer: the first type of the C type `long`.
use Rattle.std.proofs.Common.{◌≡◌, ℕ, zero, suc, ◌+◌, ◌<◌, ◌≤◌, List, [], ◌∷◌, length, drop, get_or, true, false, Some, None, sym, ap, ◌∙◌, add-one, drop-cons, arith}
use Rattle.std.specs.Prelude.{filter, slice_get}
use Rattle.std.proofs.lemmas.List.{drop_all}
use Rattle.std.proofs.lemmas.Option.{slice_get_within, get_or_from_slice_get}
use Rattle.btf_model.specs.Record.{Record}
use Rattle.btf_model.specs.Table.{Table}
use Rattle.btf_relocate_model.specs.Types.{first_size, is_long, pointer_size}

-- an element of a list, and those after it
pub element_at : {A : Type 0} (xs : List A) (i : ℕ) (x : A) → slice_get xs i ≡ Some x → drop i xs ≡ x ∷ drop (i + 1) xs
element_at {A} xs i x is =
    drop-cons xs i x (slice_get_within xs i x is) ∙ ap (λ (y : A). y ∷ drop (suc i) xs) (get_or_from_slice_get xs i x x is)
    ∙ ap (λ (n : ℕ). x ∷ drop n xs) (sym (add-one i))

pub element_there : {A : Type 0} (xs : List A) (i : ℕ) (x : A) → i < length xs → x ≡ get_or xs i x → drop i xs ≡ x ∷ drop (i + 1) xs
element_there {A} xs i x lt is = drop-cons xs i x lt ∙ ap (λ (y : A). y ∷ drop (suc i) xs) (sym is) ∙ ap (λ (n : ℕ). x ∷ drop n xs) (sym (add-one i))

-- there is no element past the last
pub none_there : {A : Type 0} (xs : List A) (i : ℕ) → slice_get xs i ≡ None → length xs ≤ i
none_there [] i none = omega arith
none_there (x ∷ xs) zero none = absurd (cc)
none_there (x ∷ xs) (suc i) none = omega (arith, none_there xs i none)

module _ (t : Table) (i : ℕ) where
  abbrev Left : Type 0
  Left = first_size (filter (is_long t) (drop i t.records)) ≡ pointer_size t

  here : (r : Record) → slice_get t.records i ≡ Some r → Left → first_size (filter (is_long t) (r ∷ drop (i + 1) t.records)) ≡ pointer_size t
  here r is left = ap (λ (rs : List Record). first_size (filter (is_long t) rs)) (sym (element_at t.records i r is)) ∙ left

  pub this_size : (r : Record) → slice_get t.records i ≡ Some r → Left → is_long t r ≡ true → r.third ≡ pointer_size t
  this_size r is left long = rw long at (here r is left)

  pub no_long : (r : Record) → slice_get t.records i ≡ Some r → Left → is_long t r ≡ false → first_size (filter (is_long t) (drop (i + 1) t.records)) ≡ pointer_size t
  no_long r is left other = rw other at (here r is left)

  pub no_more : length t.records ≤ i → Left → 8 ≡ pointer_size t
  no_more le left = ap (λ (rs : List Record). first_size (filter (is_long t) rs)) (sym (drop_all i t.records le)) ∙ left
