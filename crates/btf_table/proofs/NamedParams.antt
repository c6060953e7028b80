-- Parameters that get names, one after another.
use Rattle.std.proofs.Common.{◌≡◌, ℕ, suc, ◌+◌, ◌*◌, ◌<◌, ◌≤◌, List, [], ◌∷◌, ◌++◌, length, get_or, take, drop, refl, sym, ap, ◌∙◌, arith}
use Rattle.std.specs.Prelude.{if◌then◌else◌}
use Rattle.std.specs.List.{flat_map}
use Rattle.std.proofs.lemmas.List.{length-append, length-take, append_assoc, append-nil, take_all, drop_all, take_at, drop_at}
use Rattle.std.proofs.Math.Seq.{take-suc, drop-cons}
use Rattle.btf_rewrite_model.specs.Made.{wants_name}
use Rattle.btf_rewrite_model.specs.Ksyms.{named_parameters}
use Rattle.btf_plain.specs.Items.{param_words}
use Rattle.btf_plain.specs.declared.items.BtfParam.{BtfParam}

-- words that replace others
pub put_at : (before old rest new : List ℕ) (n m : ℕ) → length before ≡ n → n + length old ≡ m → take n (before ++ (old ++ rest)) ++ (new ++ drop m (before ++ (old ++ rest))) ≡ before ++ (new ++ rest)
put_at before old rest new n m at past =
    let long : length (before ++ old) ≡ m = omega (arith, length-append before old, at, past) in
    ap (λ (xs : List ℕ). xs ++ (new ++ drop m (before ++ (old ++ rest)))) (take_at before (old ++ rest) n at)
    ∙ ap (λ (xs : List ℕ). before ++ (new ++ drop m xs)) (sym (append_assoc before old rest)) ∙ ap (λ (xs : List ℕ). before ++ (new ++ xs)) (drop_at (before ++ old) rest m long)

-- ---- parameters

-- the words of parameters, with new names before a place
abbrev pub named_to : ℕ → ℕ → List BtfParam → List ℕ
named_to name i params = named_parameters name (flat_map param_words (take i params)) ++ flat_map param_words (drop i params)

named_append : (name : ℕ) (xs ys : List BtfParam) → named_parameters name (flat_map param_words (xs ++ ys)) ≡ named_parameters name (flat_map param_words xs) ++ named_parameters name (flat_map param_words ys)
named_append name [] ys = refl
named_append name (x ∷ xs) ys = ap (λ (rest : List ℕ). (if wants_name x.name_offset x.btf_type then name else x.name_offset) ∷ x.btf_type ∷ rest) (named_append name xs ys)

named_len : (name : ℕ) (xs : List BtfParam) → length (named_parameters name (flat_map param_words xs)) ≡ 2 * length xs
named_len name [] = refl
named_len name (x ∷ xs) = omega (arith, named_len name xs)

abbrev zero_param : BtfParam
zero_param = record { name_offset = 0; btf_type = 0 }

-- one more parameter has its name
pub named_next : (name : ℕ) (params : List BtfParam) (i new : ℕ) → i < length params → new ≡ (if wants_name (get_or params i zero_param).name_offset (get_or params i zero_param).btf_type then name else (get_or params i zero_param).name_offset)
    → take (2 * i) (named_to name i params) ++ new ∷ drop (2 * i + 1) (named_to name i params) ≡ named_to name (i + 1) params
named_next name params i new lt is =
    let p : BtfParam = get_or params i zero_param in
    let front : List ℕ = named_parameters name (flat_map param_words (take i params)) in
    let rest : List ℕ = flat_map param_words (drop (suc i) params) in
    let more : i + 1 ≡ suc i = omega arith in
    let here : named_to name i params ≡ front ++ ((p.name_offset ∷ []) ++ (p.btf_type ∷ rest)) = ap (λ (xs : List BtfParam). front ++ flat_map param_words xs) (drop-cons params i zero_param lt) in
    let long : length front ≡ 2 * i = omega (arith, named_len name (take i params), length-take i params, lt) in
    let put : take (2 * i) (named_to name i params) ++ new ∷ drop (2 * i + 1) (named_to name i params) ≡ front ++ new ∷ p.btf_type ∷ rest =
    ap (λ (xs : List ℕ). take (2 * i) xs ++ new ∷ drop (2 * i + 1) xs) here ∙ put_at front (p.name_offset ∷ []) (p.btf_type ∷ rest) (new ∷ []) (2 * i) (2 * i + 1) long refl in
    let then_named : named_to name (i + 1) params ≡ front ++ new ∷ p.btf_type ∷ rest =
    ap (λ (n : ℕ). named_to name n params) more ∙ ap (λ (xs : List BtfParam). named_parameters name (flat_map param_words xs) ++ rest) (take-suc params i zero_param lt)
    ∙ ap (λ (xs : List ℕ). xs ++ rest) (named_append name (take i params) (p ∷ [])) ∙ append_assoc front ((if wants_name p.name_offset p.btf_type then name else p.name_offset) ∷ p.btf_type ∷ []) rest
    ∙ ap (λ (n : ℕ). front ++ n ∷ p.btf_type ∷ rest) (sym is) in
    put ∙ sym then_named

-- all parameters have their names
pub named_all : (name i : ℕ) (params : List BtfParam) → length params ≤ i → named_to name i params ≡ named_parameters name (flat_map param_words params)
named_all name i params end =
    ap (λ (xs : List BtfParam). named_parameters name (flat_map param_words xs) ++ flat_map param_words (drop i params)) (take_all i params end)
    ∙ ap (λ (xs : List BtfParam). named_parameters name (flat_map param_words params) ++ flat_map param_words xs) (drop_all i params end) ∙ append-nil (named_parameters name (flat_map param_words params))
