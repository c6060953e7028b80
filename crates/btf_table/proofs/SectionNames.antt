-- The result of `replace` for a name, if one ASCII character replaces another.
use Rattle.std.proofs.Common.{◌≡◌, ◌==◌, ℕ, zero, suc, ◌+◌, ◌<◌, Bool, false, List, [], ◌∷◌, ◌++◌, length, get_or, take, drop, sym, ap, ◌∙◌, refl, arith, ⊎_elim}
use Rattle.std.specs.Prelude.{if◌then◌else◌}
use Rattle.std.specs.Str.{NoCharPasses}
use Rattle.std.specs.Str.Pattern.{FindsChar}
use Rattle.std.specs.Str.Replace.{ReplacesMatches}
use Rattle.std.proofs.lemmas.Bool.{eq-eqb, ne_eqb}
use Rattle.std.proofs.lemmas.List.{map-append, take-append-drop}
use Rattle.std.proofs.lemmas.Str.{len_utf8_ascii}
use Rattle.std.proofs.lemmas.Str.Pattern.{NoCharPasses-char, drop_at_char}
use Rattle.btf_rewrite_model.specs.Pass.{replaced}

-- if the byte does not occur, nothing is replaced
replaced_none : (byte other : ℕ) (bs : List ℕ) → ((k : ℕ) → k < length bs → (get_or bs k 0 == byte) ≡ false) → replaced byte other bs ≡ bs
replaced_none byte other [] none = refl
replaced_none byte other (b ∷ bs) none =
    ap (λ (c : Bool). (if c then other else b) ∷ replaced byte other bs) (none 0 (omega arith))
    ∙ ap (λ (xs : List ℕ). b ∷ xs) (replaced_none byte other bs (λ k lt. none (suc k) (omega (arith, lt))))

stays : (c other : ℕ) (bs : List ℕ) → c < 128 → NoCharPasses (λ d. d == c) bs → replaced c other bs ≡ bs
stays c other bs ascii none = replaced_none c other bs (λ k lt. ne_eqb (get_or bs k 0) c (NoCharPasses-char c bs k none ascii lt))

-- `replace` of an ASCII character by another replaces one byte by another
pub replaces_byte : (other n c : ℕ) (s out : List ℕ) → c < 128 → ReplacesMatches FindsChar (λ a b. b ≡ a) (other ∷ []) n c s out → out ≡ replaced c other s
replaces_byte other zero c s out ascii none = none.1 ∙ sym (stays c other s ascii none.0)
replaces_byte other (suc n) c s out ascii m =
    let a : ℕ = m.0 in
    let b : ℕ = m.1 in
    let q : ℕ = m.2 in
    let rest : List ℕ = m.3 in
    let on : b ≡ a + 1 = omega (arith, m.4.1.ends, len_utf8_ascii c ascii) in
    let behind : rest ≡ replaced c other (drop b s) =
    ⊎_elim (λ next. replaces_byte other n q (drop b s) rest (omega (arith, ascii, m.5)) next.1 ∙ ap (λ (d : ℕ). replaced d other (drop b s)) m.5) (λ empty. absurd (omega (arith, empty.0, on))) m.6 in
    let split : s ≡ take a s ++ c ∷ drop b s = sym (take-append-drop a s) ∙ ap (λ (xs : List ℕ). take a s ++ xs) (drop_at_char c s a b m.4.1 ascii) in
    let here : replaced c other s ≡ take a s ++ other ∷ replaced c other (drop b s) =
    ap (replaced c other) split ∙ map-append (λ (d : ℕ). if d == c then other else d) (take a s) (c ∷ drop b s)
    ∙ ap (λ (xs : List ℕ). xs ++ (if c == c then other else c) ∷ replaced c other (drop b s)) (stays c other (take a s) ascii m.4.0)
    ∙ ap (λ (t : Bool). take a s ++ (if t then other else c) ∷ replaced c other (drop b s)) (eq-eqb c c refl) in
    m.7 ∙ ap (λ (xs : List ℕ). take a s ++ other ∷ xs) behind ∙ sym here
