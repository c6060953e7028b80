-- The last `=` of a text, which ends a name.
use Rattle.std.proofs.Common.{◌≡◌, ◌≢◌, ℕ, suc, ◌<◌, List, [], ◌∷◌, ◌++◌, length, get_or, take, drop, Option, None, Some, refl, sym, ap, subst, ◌∙◌, arith}
use Rattle.std.specs.Prelude.{◌==◌, if◌then◌else◌, codes}
use Rattle.std.specs.Str.Parse.{AllDigits}
use Rattle.std.specs.Char.{digit_value}
use Rattle.std.specs.Str.Pattern.{RFindsChar, SplitsAroundMatch}
use Rattle.std.proofs.lemmas.Bool.{ne_eqb}
use Rattle.std.proofs.lemmas.List.{append_assoc, take-append-drop}
use Rattle.std.proofs.lemmas.Option.{same_Some, none-some}
use Rattle.std.proofs.lemmas.Str.Pattern.{NoCharPasses-char, drop_at_char}
use Rattle.btf_cli.specs.Setting.{IsDecimal, IsNamedNumber}

-- the text before and after the last `=`
abbrev cut_at : ℕ → List ℕ → Option (List ℕ × List ℕ) → Option (List ℕ × List ℕ)
cut_at byte text (Some parts) = Some (byte ∷ parts.0, parts.1)
cut_at byte text None = if byte == 61 then Some ([], text) else None

abbrev pub cut_last : List ℕ → Option (List ℕ × List ℕ)
cut_last [] = None
cut_last (byte ∷ text) = cut_at byte text (cut_last text)

-- a text without `=` has no last `=`
pub not_cut : (text : List ℕ) → ((i : ℕ) → i < length text → get_or text i 0 ≢ 61) → cut_last text ≡ None
not_cut [] lacks = refl
not_cut (byte ∷ text) lacks =
    ap (cut_at byte text) (not_cut text (λ i lt. lacks (suc i) (omega (arith, lt)))) ∙ ap (λ b. if b then Some ([], text) else None) (ne_eqb byte 61 (lacks 0 (omega arith)))

-- if the text after an `=` has none, that `=` is the last
pub cut_is : (name rest : List ℕ) → cut_last rest ≡ None → cut_last (name ++ 61 ∷ rest) ≡ Some (name, rest)
cut_is [] rest none = ap (cut_at 61 rest) none
cut_is (byte ∷ name) rest none = ap (cut_at byte (name ++ 61 ∷ rest)) (cut_is name rest none)

digit_differs : (c : ℕ) → digit_value c < 10 → c ≢ 61
digit_differs c digit is = let at : digit_value 61 < 10 = subst (λ n. digit_value n < 10) is digit in absurd (omega (arith, at))

digits_not_cut : (digits : List ℕ) → AllDigits 10 digits → cut_last digits ≡ None
digits_not_cut [] all = refl
digits_not_cut (c ∷ digits) all = ap (cut_at c digits) (digits_not_cut digits all.1) ∙ ap (λ b. if b then Some ([], digits) else None) (ne_eqb c 61 (digit_differs c all.0))

-- the name and the number are the texts before and after the last `=`
pub cut_named : (text name : List ℕ) (n : ℕ) → (named : IsNamedNumber text name n) → cut_last text ≡ Some (name, named.0)
cut_named text name n named = ap cut_last (named.1 ∙ append_assoc name (codes "=") named.0) ∙ cut_is name named.0 (digits_not_cut named.0 named.2.0.1)

-- ---- `rsplit_once`

-- if it returns None, there is no `=`
pub none_found : (text : List ℕ) → RFindsChar 61 text None → cut_last text ≡ None
none_found text none = not_cut text (λ i lt. NoCharPasses-char 61 text i none (omega arith) lt)

-- otherwise it splits the text at the last `=`
pub parts_found : (text front back : List ℕ) → SplitsAroundMatch (RFindsChar 61) text front back → (text ≡ front ++ 61 ∷ back) × (cut_last text ≡ Some (front, back))
parts_found text front back split =
    let i : ℕ = split.0 in
    let j : ℕ = split.1 in
    let back_is : back ≡ drop j text = split.4 in
    let whole : text ≡ front ++ 61 ∷ back =
    sym (take-append-drop i text) ∙ ap (λ xs. take i text ++ xs) (drop_at_char 61 text i j split.2.1 (omega arith)) ∙ ap (λ xs. xs ++ 61 ∷ drop j text) (sym split.3) ∙ ap (λ xs. front ++ 61 ∷ xs) (sym back_is) in
    let none : cut_last back ≡ None = ap cut_last back_is ∙ not_cut (drop j text) (λ k lt. NoCharPasses-char 61 (drop j text) k split.2.0 (omega arith) lt) in
    (whole, ap cut_last whole ∙ cut_is front back none)

-- ---- `NAME=NUMBER`

-- a text without `=` is no name and number
pub not_named : (text : List ℕ) → RFindsChar 61 text None → (name : List ℕ) (n : ℕ) → IsNamedNumber text name n → ⊥
not_named text none name n named = none-some (name, named.0) (sym (none_found text none) ∙ cut_named text name n named)

-- a text without a number after the last `=` is no name and number
pub not_numbered : (text front back : List ℕ) → SplitsAroundMatch (RFindsChar 61) text front back → ((n : ℕ) → IsDecimal 64 back n → ⊥) → (name : List ℕ) (n : ℕ) → IsNamedNumber text name n → ⊥
not_numbered text front back split unset name n named =
    let parts : (front, back) ≡ (name, named.0) = same_Some (front, back) (name, named.0) (sym (parts_found text front back split).1 ∙ cut_named text name n named) in
    unset n (subst (λ (digits : List ℕ). IsDecimal 64 digits n) (sym (ap (λ (p : List ℕ × List ℕ). p.1) parts)) named.2)
