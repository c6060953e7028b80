-- The answers of the candidates, one after another.
use Rattle.std.proofs.Common.{◌≡◌, ℕ, ◌+◌, ◌<◌, ◌≤◌, List, [], ◌∷◌, ◌++◌, length, drop, get_or, Option, Some, None, Result, Ok, Err, refl, sym, ap, ◌∙◌, add-one, drop-cons, append_assoc}
use Rattle.std.proofs.lemmas.List.{drop_all, append-nil}
use Rattle.btf_relocate_model.specs.Resolution.{answers, joined_answer, retained}
use Rattle.btf_relocate_model.specs.Types.{◌>>=◌}
use Rattle.btf_relocate_model.specs.declared.answer.Answer.{Answer}
use Rattle.btf_relocate_model.specs.declared.error.RelocationError.{RelocationError}

-- the candidates that were retained so far, and the answers of the rest
abbrev pub before : List ℕ → Result (Option Answer × List ℕ) RelocationError → Result (Option Answer × List ℕ) RelocationError
before kept (Ok q) = Ok (q.0, kept ++ q.1)
before kept (Err e) = Err e

before_nothing : (o : Result (Option Answer × List ℕ) RelocationError) → before [] o ≡ o
before_nothing (Ok q) = refl
before_nothing (Err e) = refl

before_one : (kept : List ℕ) (c : ℕ) (a : Option Answer) (o : Result (Option Answer × List ℕ) RelocationError)
    → before kept (o >>= λ rest. Ok (rest.0, retained c a rest.1)) ≡ before (kept ++ retained c a []) o
before_one kept c (Some a) (Ok q) = ap (λ (xs : List ℕ). let p : Option Answer × List ℕ = (q.0, xs) in Ok p) (sym (append_assoc kept (c ∷ []) q.1))
before_one kept c None (Ok q) = ap (λ (xs : List ℕ). let p : Option Answer × List ℕ = (q.0, xs ++ q.1) in Ok p) (sym (append-nil kept))
before_one kept c a (Err e) = refl

module _ (answer : ℕ → Result (Option Answer) RelocationError) (start : Option Answer) (cs : List ℕ) where
  abbrev pub Left : Option Answer → List ℕ → ℕ → Type 0
  Left first kept i = before kept (answers answer first (drop i cs)) ≡ answers answer start cs

  pub starts : Left start [] 0
  starts = before_nothing (answers answer start cs)

  here : (first : Option Answer) (kept : List ℕ) (i : ℕ) → i < length cs → Left first kept i → before kept (answers answer first (get_or cs i 0 ∷ drop (i + 1) cs)) ≡ answers answer start cs
  here first kept i lt left =
      ap (λ (xs : List ℕ). before kept (answers answer first xs)) (sym (drop-cons cs i 0 lt ∙ ap (λ (n : ℕ). get_or cs i 0 ∷ drop n cs) (sym (add-one i)))) ∙ left

  pub refused : (first : Option Answer) (kept : List ℕ) (i : ℕ) → i < length cs → Left first kept i → (e : RelocationError) → answer (get_or cs i 0) ≡ Err e → answers answer start cs ≡ Err e
  refused first kept i lt left e is = sym (here first kept i lt left) ∙ rw is refl

  pub apart : (first : Option Answer) (kept : List ℕ) (i : ℕ) → i < length cs → Left first kept i → (a : Option Answer) (e : RelocationError) → answer (get_or cs i 0) ≡ Ok a → joined_answer first a ≡ Err e → answers answer start cs ≡ Err e
  apart first kept i lt left a e is differs = sym (here first kept i lt left) ∙ rw (is, differs) refl

  pub goes_on : (first : Option Answer) (kept : List ℕ) (i : ℕ) → i < length cs → Left first kept i → (a next : Option Answer) → answer (get_or cs i 0) ≡ Ok a → joined_answer first a ≡ Ok next
      → Left next (kept ++ retained (get_or cs i 0) a []) (i + 1)
  goes_on first kept i lt left a next is same =
      let step : before kept (answers answer next (drop (i + 1) cs) >>= λ rest. Ok (rest.0, retained (get_or cs i 0) a rest.1)) ≡ answers answer start cs = rw (is, same) at (here first kept i lt left) in
      sym (before_one kept (get_or cs i 0) a (answers answer next (drop (i + 1) cs))) ∙ step

  pub all_answered : (first : Option Answer) (kept : List ℕ) (i : ℕ) → length cs ≤ i → Left first kept i → answers answer start cs ≡ Ok (first, kept)
  all_answered first kept i le left =
      sym left ∙ ap (λ (xs : List ℕ). before kept (answers answer first xs)) (drop_all i cs le) ∙ ap (λ (xs : List ℕ). let p : Option Answer × List ℕ = (first, xs) in Ok p) (append-nil kept)
