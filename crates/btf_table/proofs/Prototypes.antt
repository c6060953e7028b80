-- Parameters that get names of their own, and those that become variants, one after another.
use Rattle.std.proofs.Common.{◌≡◌, ℕ, suc, ◌+◌, ◌*◌, ◌<◌, Bool, true, false, ◌||◌, List, [], ◌∷◌, ◌++◌, length, get_or, take, drop, None, Some, refl, sym, ap, ◌∙◌, arith}
use Rattle.std.specs.Prelude.{if◌then◌else◌}
use Rattle.std.specs.List.{flat_map, list_any}
use Rattle.std.proofs.lemmas.List.{length-append, length-take, append_assoc, take-append-drop}
use Rattle.std.proofs.lemmas.List.Sums.{sum_by-cons}
use Rattle.std.proofs.lemmas.Bool.{true≢false}
use Rattle.std.proofs.Math.Seq.{take-suc, drop-cons}
use Rattle.btf_model.specs.Refusal.{Refusal}
use Rattle.btf_model.specs.Record.{Record}
use Rattle.btf_model.specs.Table.{Table}
use Rattle.btf_rewrite_model.specs.Made.{wants_name}
use Rattle.btf_rewrite_model.specs.Checks.{first_fault, have_room}
use Rattle.btf_rewrite_model.specs.Pass.{texts_len, param_text, param_texts}
use Rattle.btf_rewrite_model.specs.Rule.{named_params}
use Rattle.btf_rewrite_model.specs.Rewritten.{with_zero_byte}
use Rattle.btf_rewrite_model.proofs.Appending.{room_append, ended_len}
use Rattle.btf_plain.specs.Items.{param_words}
use Rattle.btf_plain.specs.declared.items.BtfParam.{BtfParam}
use Rattle.btf_table.specs.declared.table.changes.Changes.{Changes}
use Rattle.btf_table.specs.Adding.{next_string_offset, Adds}
use Rattle.btf_table.specs.Params.{lack_a_name}
use Rattle.btf_table.proofs.Checks.{fault_after, fault_before}
use Rattle.btf_table.proofs.NamedParams.{put_at}

-- ---- texts

-- the texts for parameters, and for the parameters after them
texts_append : (k : ℕ) (ps qs : List BtfParam) → param_texts k (flat_map param_words (ps ++ qs)) ≡ param_texts k (flat_map param_words ps) ++ param_texts (k + length ps) (flat_map param_words qs)
texts_append k [] qs =
    let none : k ≡ k + 0 = omega arith in
    ap (λ (n : ℕ). param_texts n (flat_map param_words qs)) none
texts_append k (p ∷ ps) qs =
    let here : List (List ℕ) = if wants_name p.name_offset p.btf_type then param_text k ∷ [] else [] in
    let behind : k + 1 + length ps ≡ k + suc (length ps) = omega arith in
    ap (λ ts. here ++ ts) (texts_append (k + 1) ps qs ∙ ap (λ (n : ℕ). param_texts (k + 1) (flat_map param_words ps) ++ param_texts n (flat_map param_words qs)) behind)
    ∙ sym (append_assoc here (param_texts (k + 1) (flat_map param_words ps)) (param_texts (k + suc (length ps)) (flat_map param_words qs)))

abbrev pub zero_param : BtfParam
zero_param = record { name_offset = 0; btf_type = 0 }

-- the parameter at a place
abbrev pub at : List BtfParam → ℕ → BtfParam
at ps i = get_or ps i zero_param

-- the texts for the parameters before a place
abbrev pub texts_to : ℕ → List BtfParam → List (List ℕ)
texts_to i ps = param_texts 0 (flat_map param_words (take i ps))

up_to : (ps : List BtfParam) (i : ℕ) → i < length ps → take (i + 1) ps ≡ take i ps ++ at ps i ∷ []
up_to ps i lt =
    let more : i + 1 ≡ suc i = omega arith in
    ap (λ (n : ℕ). take n ps) more ∙ take-suc ps i zero_param lt

-- one more parameter has its text
pub texts_next : (ps : List BtfParam) (i : ℕ) → i < length ps → texts_to (i + 1) ps ≡ texts_to i ps ++ param_texts i (param_words (at ps i))
texts_next ps i lt =
    let many : 0 + length (take i ps) ≡ i = omega (arith, length-take i ps, lt) in
    ap (λ (qs : List BtfParam). param_texts 0 (flat_map param_words qs)) (up_to ps i lt) ∙ texts_append 0 (take i ps) (at ps i ∷ [])
    ∙ ap (λ (n : ℕ). texts_to i ps ++ param_texts n (param_words (at ps i))) many

-- ---- whether texts fit

-- one more text fits
pub room_next : (offset : ℕ) (ps : List BtfParam) (i : ℕ) → i < length ps → first_fault (have_room offset (texts_to i ps)) ≡ None
    → first_fault (have_room (offset + texts_len (texts_to i ps)) (param_texts i (param_words (at ps i)))) ≡ None → first_fault (have_room offset (texts_to (i + 1) ps)) ≡ None
room_next offset ps i lt before passed =
    ap (λ (ts : List (List ℕ)). first_fault (have_room offset ts)) (texts_next ps i lt) ∙ ap first_fault (room_append offset (texts_to i ps) (param_texts i (param_words (at ps i))))
    ∙ fault_after (have_room offset (texts_to i ps)) (have_room (offset + texts_len (texts_to i ps)) (param_texts i (param_words (at ps i)))) before ∙ passed

-- the first text that does not fit counts
pub room_fault : (offset : ℕ) (ps : List BtfParam) (i : ℕ) (refusal : Refusal) → i < length ps → first_fault (have_room offset (texts_to i ps)) ≡ None
    → first_fault (have_room (offset + texts_len (texts_to i ps)) (param_texts i (param_words (at ps i)))) ≡ Some refusal → first_fault (have_room offset (param_texts 0 (flat_map param_words ps))) ≡ Some refusal
room_fault offset ps i refusal lt before faults =
    let front : List (List ℕ) = texts_to i ps in
    let here : List (List ℕ) = param_texts i (param_words (at ps i)) in
    let rest : List (List ℕ) = param_texts (0 + length (take (i + 1) ps)) (flat_map param_words (drop (i + 1) ps)) in
    let to : List (List ℕ) = texts_to (i + 1) ps in
    let parts : param_texts 0 (flat_map param_words ps) ≡ to ++ rest =
    ap (λ (qs : List BtfParam). param_texts 0 (flat_map param_words qs)) (sym (take-append-drop (i + 1) ps)) ∙ texts_append 0 (take (i + 1) ps) (drop (i + 1) ps) in
    let up : first_fault (have_room offset to) ≡ Some refusal =
    ap (λ (ts : List (List ℕ)). first_fault (have_room offset ts)) (texts_next ps i lt) ∙ ap first_fault (room_append offset front here)
    ∙ fault_after (have_room offset front) (have_room (offset + texts_len front) here) before ∙ faults in
    ap (λ (ts : List (List ℕ)). first_fault (have_room offset ts)) parts ∙ ap first_fault (room_append offset to rest) ∙ fault_before (have_room offset to) (have_room (offset + texts_len to) rest) refusal up

-- ---- names

-- the words of parameters, with new names before a place
abbrev pub named_to : ℕ → ℕ → List BtfParam → List ℕ
named_to offset i ps = named_params 0 offset (flat_map param_words (take i ps)) ++ flat_map param_words (drop i ps)

-- the names of parameters, and of the parameters after them
named_append : (k offset : ℕ) (ps qs : List BtfParam)
    → named_params k offset (flat_map param_words (ps ++ qs))
    ≡ named_params k offset (flat_map param_words ps) ++ named_params (k + length ps) (offset + texts_len (param_texts k (flat_map param_words ps))) (flat_map param_words qs)
named_append k offset [] qs =
    let none : k ≡ k + 0 = omega arith in
    let here : offset ≡ offset + 0 = omega arith in
    ap (λ (n : ℕ). named_params n offset (flat_map param_words qs)) none ∙ ap (λ (n : ℕ). named_params (k + 0) n (flat_map param_words qs)) here
named_append k offset (p ∷ ps) qs =
    let words : List ℕ = flat_map param_words ps in
    let others : List ℕ = flat_map param_words qs in
    let texts : List (List ℕ) = param_texts (k + 1) words in
    let behind : k + 1 + length ps ≡ k + suc (length ps) = omega arith in
    elim (wants_name p.name_offset p.btf_type) as (λ (b : Bool).
    (if b then offset ∷ p.btf_type ∷ named_params (k + 1) (offset + length (param_text k) + 1) (flat_map param_words (ps ++ qs)) else p.name_offset ∷ p.btf_type ∷ named_params (k + 1) offset (flat_map param_words (ps ++ qs)))
    ≡ (if b then offset ∷ p.btf_type ∷ named_params (k + 1) (offset + length (param_text k) + 1) words else p.name_offset ∷ p.btf_type ∷ named_params (k + 1) offset words)
    ++ named_params (k + suc (length ps)) (offset + texts_len ((if b then param_text k ∷ [] else []) ++ texts)) others) [
      | true ↦
          let past : offset + length (param_text k) + 1 + texts_len texts ≡ offset + texts_len (param_text k ∷ texts) = omega (arith, sum_by-cons (λ (text : List ℕ). length text + 1) (param_text k) texts) in
          let front : List ℕ = named_params (k + 1) (offset + length (param_text k) + 1) words in
          ap (λ ws. offset ∷ p.btf_type ∷ ws)
          (named_append (k + 1) (offset + length (param_text k) + 1) ps qs ∙ ap (λ (n : ℕ). front ++ named_params n (offset + length (param_text k) + 1 + texts_len texts) others) behind
          ∙ ap (λ (n : ℕ). front ++ named_params (k + suc (length ps)) n others) past)
      | false ↦
          let front : List ℕ = named_params (k + 1) offset words in
          ap (λ ws. p.name_offset ∷ p.btf_type ∷ ws) (named_append (k + 1) offset ps qs ∙ ap (λ (n : ℕ). front ++ named_params n (offset + texts_len texts) others) behind)
    ]

named_len : (k offset : ℕ) (ps : List BtfParam) → length (named_params k offset (flat_map param_words ps)) ≡ 2 * length ps
named_len k offset [] = refl
named_len k offset (p ∷ ps) =
    let words : List ℕ = flat_map param_words ps in
    elim (wants_name p.name_offset p.btf_type) as (λ (b : Bool).
    length (if b then offset ∷ p.btf_type ∷ named_params (k + 1) (offset + length (param_text k) + 1) words else p.name_offset ∷ p.btf_type ∷ named_params (k + 1) offset words) ≡ 2 * suc (length ps)) [
      | true ↦ omega (arith, named_len (k + 1) (offset + length (param_text k) + 1) ps)
      | false ↦ omega (arith, named_len (k + 1) offset ps)
    ]

-- the words of the parameter at a place, which is named by the next text
named_at : (k offset : ℕ) (p : BtfParam) → named_params k offset (param_words p) ≡ (if wants_name p.name_offset p.btf_type then offset else p.name_offset) ∷ p.btf_type ∷ []
named_at k offset p =
    elim (wants_name p.name_offset p.btf_type) as (λ (b : Bool). (if b then offset ∷ p.btf_type ∷ [] else p.name_offset ∷ p.btf_type ∷ []) ≡ (if b then offset else p.name_offset) ∷ p.btf_type ∷ []) [
      | true ↦ refl
      | false ↦ refl
    ]

-- one more parameter has its name
pub named_next : (offset : ℕ) (ps : List BtfParam) (i new : ℕ) → i < length ps
    → new ≡ (if wants_name (at ps i).name_offset (at ps i).btf_type then offset + texts_len (texts_to i ps) else (at ps i).name_offset)
    → take (2 * i) (named_to offset i ps) ++ new ∷ drop (2 * i + 1) (named_to offset i ps) ≡ named_to offset (i + 1) ps
named_next offset ps i new lt is =
    let p : BtfParam = at ps i in
    let front : List ℕ = named_params 0 offset (flat_map param_words (take i ps)) in
    let rest : List ℕ = flat_map param_words (drop (i + 1) ps) in
    let more : suc i ≡ i + 1 = omega arith in
    let past : ℕ = offset + texts_len (texts_to i ps) in
    let here : named_to offset i ps ≡ front ++ ((p.name_offset ∷ []) ++ (p.btf_type ∷ rest)) =
    ap (λ (xs : List BtfParam). front ++ flat_map param_words xs) (drop-cons ps i zero_param lt ∙ ap (λ (n : ℕ). p ∷ drop n ps) more) in
    let long : length front ≡ 2 * i = omega (arith, named_len 0 offset (take i ps), length-take i ps, lt) in
    let put : take (2 * i) (named_to offset i ps) ++ new ∷ drop (2 * i + 1) (named_to offset i ps) ≡ front ++ new ∷ p.btf_type ∷ rest =
    ap (λ (xs : List ℕ). take (2 * i) xs ++ new ∷ drop (2 * i + 1) xs) here ∙ put_at front (p.name_offset ∷ []) (p.btf_type ∷ rest) (new ∷ []) (2 * i) (2 * i + 1) long refl in
    let many : 0 + length (take i ps) ≡ i = omega (arith, length-take i ps, lt) in
    let then_named : named_to offset (i + 1) ps ≡ front ++ new ∷ p.btf_type ∷ rest =
    ap (λ (xs : List BtfParam). named_params 0 offset (flat_map param_words xs) ++ rest) (up_to ps i lt) ∙ ap (λ (xs : List ℕ). xs ++ rest) (named_append 0 offset (take i ps) (p ∷ []))
    ∙ ap (λ (xs : List ℕ). (front ++ xs) ++ rest) (named_at (0 + length (take i ps)) past p ∙ ap (λ (n : ℕ). n ∷ p.btf_type ∷ []) (sym is)) ∙ append_assoc front (new ∷ p.btf_type ∷ []) rest in
    put ∙ sym then_named

-- ---- what is appended

-- the offset of the next text, after those that were appended
pub end_after : (t : Table) (old new : Changes) (ts : List (List ℕ)) (rs : List Record) → Adds t old new ts rs → next_string_offset t new ≡ next_string_offset t old + texts_len ts
end_after t old new ts rs adds = omega (arith, ap length adds.strings, length-append old.new_strings.items (flat_map with_zero_byte ts), ended_len ts)

-- ---- prototypes whose parameters all have names

-- a parameter lacks its name if its words do
pub lacks_words : (ps : List BtfParam) → list_any (λ (p : BtfParam). wants_name p.name_offset p.btf_type) ps ≡ lack_a_name (flat_map param_words ps)
lacks_words [] = refl
lacks_words (p ∷ ps) = ap (λ (b : Bool). wants_name p.name_offset p.btf_type || b) (lacks_words ps)

or_false : (a b : Bool) → (a || b) ≡ false → (a ≡ false) × (b ≡ false)
or_false false b is = (refl, is)
or_false true b is = absurd (true≢false is)

-- they need no texts
pub no_texts : (k : ℕ) (words : List ℕ) → lack_a_name words ≡ false → param_texts k words ≡ []
no_texts k [] none = refl
no_texts k (name ∷ []) none = refl
no_texts k (name ∷ type ∷ words) none =
    let both = or_false (wants_name name type) (lack_a_name words) none in
    ap (λ (b : Bool). (if b then param_text k ∷ [] else []) ++ param_texts (k + 1) words) both.0 ∙ no_texts (k + 1) words both.1

-- and are unchanged
pub names_stay : (k offset : ℕ) (words : List ℕ) → lack_a_name words ≡ false → named_params k offset words ≡ words
names_stay k offset [] none = refl
names_stay k offset (name ∷ []) none = refl
names_stay k offset (name ∷ type ∷ words) none =
    let both = or_false (wants_name name type) (lack_a_name words) none in
    ap (λ (b : Bool). if b then offset ∷ type ∷ named_params (k + 1) (offset + length (param_text k) + 1) words else name ∷ type ∷ named_params (k + 1) offset words) both.0
    ∙ ap (λ (ws : List ℕ). name ∷ type ∷ ws) (names_stay (k + 1) offset words both.1)
