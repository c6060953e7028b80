-- Texts and records that are appended one after another, and whether they fit.
use Rattle.std.proofs.Common.{◌≡◌, ℕ, suc, ◌+◌, Bool, true, false, List, [], ◌∷◌, ◌++◌, length, refl, sym, ap, ◌∙◌, arith}
use Rattle.std.specs.Prelude.{if◌then◌else◌}
use Rattle.std.specs.List.{flat_map, sum_by}
use Rattle.std.proofs.lemmas.List.{length-append, append_assoc, append-nil}
use Rattle.std.proofs.lemmas.List.Sums.{sum_by-cons, sum_by-append}
use Rattle.btf_model.specs.Record.{Record}
use Rattle.btf_rewrite_model.specs.Made.{wants_name}
use Rattle.btf_rewrite_model.specs.Checks.{Check, has_room, have_room, fits, record_len}
use Rattle.btf_rewrite_model.specs.Pass.{texts_len, param_text, param_texts}
use Rattle.btf_rewrite_model.specs.Rule.{named_params}
use Rattle.btf_rewrite_model.specs.Fault.{all_fit}
use Rattle.btf_rewrite_model.specs.Rewritten.{with_zero_byte}

-- ---- texts

-- the bytes of texts with their zero bytes
pub ended_len : (ts : List (List ℕ)) → length (flat_map with_zero_byte ts) ≡ texts_len ts
ended_len [] = refl
ended_len (t ∷ ts) =
    omega (arith, length-append (with_zero_byte t) (flat_map with_zero_byte ts), length-append t (0 ∷ []), ended_len ts, sum_by-cons (λ (text : List ℕ). length text + 1) t ts)

pub texts_len_append : (ts us : List (List ℕ)) → texts_len (ts ++ us) ≡ texts_len ts + texts_len us
texts_len_append ts us = sum_by-append (λ (text : List ℕ). length text + 1) ts us

-- whether texts fit after others depends only on the number of bytes of the others
pub room_append : (offset : ℕ) (ts us : List (List ℕ)) → have_room offset (ts ++ us) ≡ have_room offset ts ++ have_room (offset + texts_len ts) us
room_append offset [] us =
    let none : offset ≡ offset + 0 = omega arith in
    ap (λ (o : ℕ). have_room o us) none
room_append offset (t ∷ ts) us =
    let behind : offset + length t + 1 + texts_len ts ≡ offset + texts_len (t ∷ ts) = omega (arith, sum_by-cons (λ (text : List ℕ). length text + 1) t ts) in
    ap (λ (cs : List Check). has_room offset t ∷ cs) (room_append (offset + length t + 1) ts us ∙ ap (λ (o : ℕ). have_room (offset + length t + 1) ts ++ have_room o us) behind)

-- ---- records

pub fit_append : (used : ℕ) (rs qs : List Record) → all_fit used (rs ++ qs) ≡ all_fit used rs ++ all_fit (used + sum_by record_len rs) qs
fit_append used [] qs =
    let none : used ≡ used + 0 = omega arith in
    ap (λ (n : ℕ). all_fit n qs) none
fit_append used (r ∷ rs) qs =
    let behind : used + record_len r + sum_by record_len rs ≡ used + sum_by record_len (r ∷ rs) = omega (arith, sum_by-cons record_len r rs) in
    ap (λ (cs : List Check). fits used (record_len r) ∷ cs) (fit_append (used + record_len r) rs qs ∙ ap (λ (n : ℕ). all_fit (used + record_len r) rs ++ all_fit n qs) behind)

-- ---- parameters

-- a parameter, by the offset of its name and its type
pub record Param : Type 0 where
  pub name : ℕ
  pub type : ℕ

abbrev pub param_words : Param → List ℕ
param_words p = p.name ∷ p.type ∷ []

abbrev pub wants : Param → Bool
wants p = wants_name p.name p.type

-- the text for one more parameter
pub param_texts_next : (k : ℕ) (ps : List Param) (p : Param) → param_texts k (flat_map param_words (ps ++ p ∷ [])) ≡ param_texts k (flat_map param_words ps) ++ (if wants p then param_text (k + length ps) ∷ [] else [])
param_texts_next k [] p =
    let none : k ≡ k + 0 = omega arith in
    append-nil (if wants p then param_text k ∷ [] else []) ∙ ap (λ (n : ℕ). if wants p then param_text n ∷ [] else []) none
param_texts_next k (q ∷ ps) p =
    let here : List (List ℕ) = if wants q then param_text k ∷ [] else [] in
    let behind : k + 1 + length ps ≡ k + suc (length ps) = omega arith in
    ap (λ ts. here ++ ts) (param_texts_next (k + 1) ps p ∙ ap (λ (n : ℕ). param_texts (k + 1) (flat_map param_words ps) ++ (if wants p then param_text n ∷ [] else [])) behind)
    ∙ sym (append_assoc here (param_texts (k + 1) (flat_map param_words ps)) (if wants p then param_text (k + suc (length ps)) ∷ [] else []))

-- the words of one more parameter, whose new name is after the texts of the parameters before it
pub named_params_next : (k offset : ℕ) (ps : List Param) (p : Param)
    → named_params k offset (flat_map param_words (ps ++ p ∷ [])) ≡ named_params k offset (flat_map param_words ps) ++ (if wants p then offset + texts_len (param_texts k (flat_map param_words ps)) else p.name) ∷ p.type ∷ []
named_params_next k offset [] p =
    let none : offset ≡ offset + 0 = omega arith in
    elim (wants p) as (λ (b : Bool). (if b then offset ∷ p.type ∷ [] else p.name ∷ p.type ∷ []) ≡ (if b then offset + 0 else p.name) ∷ p.type ∷ []) [ true ↦ ap (λ (n : ℕ). n ∷ p.type ∷ []) none | false ↦ refl ]
named_params_next k offset (q ∷ ps) p =
    let rest : List ℕ = flat_map param_words ps in
    let last : ℕ → List ℕ = λ n. (if wants p then n else p.name) ∷ p.type ∷ [] in
    elim (wants q) as (λ (b : Bool).
    (if b then offset ∷ q.type ∷ named_params (k + 1) (offset + length (param_text k) + 1) (flat_map param_words (ps ++ p ∷ [])) else q.name ∷ q.type ∷ named_params (k + 1) offset (flat_map param_words (ps ++ p ∷ [])))
    ≡ (if b then offset ∷ q.type ∷ named_params (k + 1) (offset + length (param_text k) + 1) rest else q.name ∷ q.type ∷ named_params (k + 1) offset rest)
    ++ last (offset + texts_len ((if b then param_text k ∷ [] else []) ++ param_texts (k + 1) rest))) [
      | true ↦
          let behind : offset + length (param_text k) + 1 + texts_len (param_texts (k + 1) rest) ≡ offset + texts_len (param_text k ∷ param_texts (k + 1) rest) =
          omega (arith, sum_by-cons (λ (text : List ℕ). length text + 1) (param_text k) (param_texts (k + 1) rest)) in
          ap (λ ws. offset ∷ q.type ∷ ws) (named_params_next (k + 1) (offset + length (param_text k) + 1) ps p ∙ ap (λ (n : ℕ). named_params (k + 1) (offset + length (param_text k) + 1) rest ++ last n) behind)
      | false ↦ ap (λ ws. q.name ∷ q.type ∷ ws) (named_params_next (k + 1) offset ps p)
    ]
