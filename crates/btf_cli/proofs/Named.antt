-- The name in the line of a type.
use Rattle.std.proofs.Common.{◌≡◌, ◌∙◌, ℕ, List, [], ◌∷◌, ◌++◌, codes, length, Option, Some, None, Ok, refl, sym, ap, arith}
use Rattle.std.specs.Option.{option_map, unwrap_or}
use Rattle.bstr.specs.Utf8.{pieces_from}
use Rattle.btf_model.specs.Text.{lossy, text_of}
use Rattle.btf_cli.specs.Listing.{name_part}
use Rattle.btf_cli.proofs.Taken.{empty_text}

no_text : (bytes : List ℕ) → bytes ≡ [] → lossy bytes ≡ []
unfolding pieces_from
no_text [] is = refl
no_text (b ∷ bytes) is = absurd (omega (arith, ap length is))

-- a list of length 0 has no items
pub nothing : {X : Type 0} (xs : List X) → length xs ≡ 0 → xs ≡ []
nothing [] is = refl
nothing (x ∷ xs) is = absurd (omega (arith, is))

part_of : (text : List ℕ) → ¬ (text ≡ []) → name_part (Ok text) ≡ codes " " ++ text
part_of [] some = absurd (some refl)
part_of (byte ∷ text) some = refl

module _ {X : Type 0} (bytes : X → List ℕ) (offset : ℕ) (o : Option X) (known : Option (List ℕ)) (other found : X) (is : option_map bytes o ≡ known) (none : bytes other ≡ []) (value : found ≡ unwrap_or o other) where
  -- the bytes at an offset, or none, are listed as the text at the offset
  found_part : name_part (text_of offset known) ≡ name_part (Ok (lossy (bytes found)))
  found_part = by_cases o is value
    where
      by_cases : (p : Option X) → option_map bytes p ≡ known → found ≡ unwrap_or p other → name_part (text_of offset known) ≡ name_part (Ok (lossy (bytes found)))
      by_cases (Some x) at there =
          ap (λ (k : Option (List ℕ)). name_part (text_of offset k)) (sym at) ∙ ap (λ (y : X). name_part (Ok (lossy (bytes y)))) (sym there)
      by_cases None at there =
          ap (λ (k : Option (List ℕ)). name_part (text_of offset k)) (sym at) ∙ ap (λ (text : List ℕ). name_part (Ok text)) (sym (no_text (bytes found) (ap bytes there ∙ none)))

  -- with a space, if there are any
  pub named_part : ¬ (length (bytes found) ≡ 0) → name_part (text_of offset known) ≡ codes " " ++ lossy (bytes found)
  named_part some = found_part ∙ part_of (lossy (bytes found)) (λ empty. some (ap length (empty_text (bytes found) empty)))

  pub unnamed_part : length (bytes found) ≡ 0 → name_part (text_of offset known) ≡ []
  unnamed_part empty = found_part ∙ ap (λ (text : List ℕ). name_part (Ok text)) (no_text (bytes found) (nothing (bytes found) empty))
