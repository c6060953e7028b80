-- Paths, index by index.
use Rattle.std.proofs.Common.{◌≡◌, ℕ, suc, ◌+◌, ◌<◌, ◌≤◌, List, [], ◌∷◌, ◌++◌, length, drop, map, get_or, Bool, true, false, Option, Some, None, Result, Ok, Err, refl, sym, ap, ◌∙◌, arith, append_assoc, drop-cons, add-one}
use Rattle.std.specs.Option.{option_map, option_to_list, is_some}
use Rattle.std.proofs.lemmas.List.{append-nil, drop_all, map-append}
use Rattle.std.specs.Prelude.{◌==◌, if◌then◌else◌}
use Rattle.std.proofs.lemmas.Bool.Decides.{nat_tests}
use Rattle.btf_model.specs.Table.{Table}
use Rattle.btf_relocate_model.specs.Path.{PathStep, AtIndex, Place, Path, path_of, path_from, place_at, after_step, local_pointer}
use Rattle.btf_relocate_model.specs.Field.{root}
use Rattle.btf_relocate_model.specs.Types.{◌>>=◌}
use Rattle.btf_relocate_model.specs.declared.error.RelocationError.{RelocationError}
use Rattle.btf_relocate_model.specs.declared.error.RelocationError.TheVariants.{BadAccess}
use Rattle.btf_relocate_model.specs.declared.field.Field.{Field}

-- the steps so far, and then the path of the indices that are left
abbrev pub finish : Table → List PathStep → Bool → Field → List ℕ → Result Path RelocationError
finish t steps is_step f [] = if is_step then Ok (record { steps = steps; field = f }) else Err BadAccess
finish t steps is_step f (i ∷ is) = place_at t f i >>= λ q. finish t (steps ++ option_to_list q.step) (is_some q.step) q.field is

abbrev behind : List PathStep → Path → Path
behind front p = record { steps = front ++ p.steps; field = p.field }

behind_after : (front : List PathStep) (s : Option PathStep) (p : Path) → behind (front ++ option_to_list s) p ≡ behind front (after_step s p)
behind_after front (Some s) p = ap (λ (xs : List PathStep). let path : Path = record { steps = xs; field = p.field } in path) (append_assoc front (s ∷ []) p.steps)
behind_after front None p = ap (λ (xs : List PathStep). let path : Path = record { steps = xs ++ p.steps; field = p.field } in path) (append-nil front)

behind_all : (front : List PathStep) (s : Option PathStep) (o : Result Path RelocationError) → (o >>= λ p. Ok (behind (front ++ option_to_list s) p)) ≡ ((o >>= λ p. Ok (after_step s p)) >>= λ p. Ok (behind front p))
behind_all front s (Ok p) = ap (λ (q : Path). Ok q) (behind_after front s p)
behind_all front s (Err e) = refl

finished : (t : Table) (front : List PathStep) (s : Option PathStep) (f : Field) (is : List ℕ)
    → finish t (front ++ option_to_list s) (is_some s) f is ≡ (path_from t (record { field = f; step = s }) is >>= λ p. Ok (behind front p))
finished t front (Some s) f [] = refl
finished t front None f [] = refl
finished t front s f (i ∷ is) =
    elim (place_at t f i) as (λ o. (o >>= λ q. finish t ((front ++ option_to_list s) ++ option_to_list q.step) (is_some q.step) q.field is)
    ≡ ((o >>= λ q. path_from t q is >>= λ path. Ok (after_step s path)) >>= λ p. Ok (behind front p))) [
      | Ok q ↦ finished t (front ++ option_to_list s) q.step q.field is ∙ behind_all front s (path_from t q is)
      | Err e ↦ refl
    ]

-- the first index counts whole values
pub first_step : (t : Table) (id i : ℕ) (is : List ℕ) (f : Field) → root local_pointer t id i ≡ Ok f → finish t (AtIndex i ∷ []) true f is ≡ path_of t id (i ∷ is)
first_step t id i is f at =
    rw at (finished t [] (Some (AtIndex i)) f is ∙ whole (path_from t (record { field = f; step = Some (AtIndex i) }) is))
  where
    whole : (o : Result Path RelocationError) → (o >>= λ p. Ok (behind [] p)) ≡ o
    whole (Ok p) = refl
    whole (Err e) = refl

pub first_refused : (t : Table) (id i : ℕ) (is : List ℕ) (e : RelocationError) → root local_pointer t id i ≡ Err e → path_of t id (i ∷ is) ≡ Err e
first_refused t id i is e at = rw at refl

-- a list by its first element
pub by_first : (is : List ℕ) → 0 < length is → is ≡ get_or is 0 0 ∷ drop 1 is
by_first is some = drop-cons is 0 0 some

-- one more index
module _ (t : Table) (steps : List PathStep) (is_step : Bool) (f : Field) (is : List ℕ) (at : ℕ) (whole : Result Path RelocationError) where
  abbrev Left : Type 0
  Left = finish t steps is_step f (drop at is) ≡ whole

  on : at < length is → Left → finish t steps is_step f (get_or is at 0 ∷ drop (at + 1) is) ≡ whole
  on lt left = let here : drop at is ≡ get_or is at 0 ∷ drop (suc at) is = drop-cons is at 0 lt in
      ap (λ (xs : List ℕ). finish t steps is_step f xs) (sym (here ∙ ap (λ (n : ℕ). get_or is at 0 ∷ drop n is) (sym (add-one at)))) ∙ left

  pub refused : at < length is → Left → (e : RelocationError) → place_at t f (get_or is at 0) ≡ Err e → whole ≡ Err e
  refused lt left e is-err = sym (on lt left) ∙ rw is-err refl

  pub further : at < length is → Left → (q : Place) → place_at t f (get_or is at 0) ≡ Ok q → finish t (steps ++ option_to_list q.step) (is_some q.step) q.field (drop (at + 1) is) ≡ whole
  further lt left q is-ok = rw is-ok at (on lt left)

  done : length is ≤ at → Left → (if is_step then Ok (record { steps = steps; field = f }) else Err BadAccess) ≡ whole
  done le left = ap (λ (xs : List ℕ). finish t steps is_step f xs) (sym (drop_all at is le)) ∙ left

  pub found : length is ≤ at → Left → is_step ≡ true → whole ≡ Ok (record { steps = steps; field = f })
  found le left yes_step = sym (rw yes_step at (done le left))

  pub lost : length is ≤ at → Left → is_step ≡ false → whole ≡ Err BadAccess
  lost le left no_step = sym (rw no_step at (done le left))

pub some_of : (n : ℕ) (b : Bool) → b ≡ (n == 0) → b ≡ false → 0 < n
some_of n b is not_so = grind (arith, nat_tests)

pub none_of : (is : List ℕ) (b : Bool) → b ≡ (length is == 0) → b ≡ true → is ≡ []
none_of [] b is so = refl
none_of (i ∷ is) b same so = absurd (grind (arith, nat_tests))

-- the steps after a push
pub pushed : {A : Type 0} (g : A → PathStep) (old new : List A) (o : Option A) (q : Option PathStep) → new ≡ old ++ option_to_list o → q ≡ option_map g o → map g new ≡ map g old ++ option_to_list q
pushed g old new (Some x) q more same = rw (more, same) (map-append g old (x ∷ []))
pushed g old new None q more same = rw (more, same, append-nil old) (sym (append-nil (map g old)))
