-- The layout of entries, one after another.
use Rattle.std.proofs.Common.{◌≡◌, ℕ, suc, ◌+◌, ◌*◌, ◌<◌, ◌≤◌, List, [], ◌∷◌, ◌++◌, length, get_or, take, drop, map, Option, refl, sym, ap, ◌∙◌, arith}
use Rattle.std.specs.List.{flat_map}
use Rattle.std.proofs.lemmas.List.{map-append, length-take, length-map, append_assoc, append-nil, take_all, drop_all}
use Rattle.std.proofs.lemmas.List.Concat.{flat_map-append}
use Rattle.std.proofs.Math.Seq.{take-suc, drop-cons}
use Rattle.btf_model.specs.Table.{Table}
use Rattle.btf_rewrite_model.specs.Made as model
use Rattle.btf_model.specs.Record.{Record}
use Rattle.btf_rewrite_model.specs.Made.{Entry, section_entries, wants_name}
use Rattle.btf_rewrite_model.specs.Ksyms.{named_parameters, laid_out, entry_type}
use Rattle.btf_plain.specs.Items.{code_entry_words}
use Rattle.btf_plain.specs.declared.items.DataSecEntry.{DataSecEntry}
use Rattle.btf_table.specs.KsymsStep.{model_entry, laid_out_anew}
use Rattle.btf_table.proofs.NamedParams.{put_at}
use Rattle.btf_table.proofs.KsymsEntries.{entries_of_words}

-- ---- entries

-- the words of entries, laid out before a place
abbrev pub laid_to : Table → Option ℕ → ℕ → List DataSecEntry → List ℕ
laid_to t placeholder i es = flat_map model.entry_words (laid_out t placeholder 0 (map model_entry (take i es))) ++ flat_map code_entry_words (drop i es)

laid_append : (t : Table) (placeholder : Option ℕ) (offset : ℕ) (xs ys : List Entry) → laid_out t placeholder offset (xs ++ ys) ≡ laid_out t placeholder offset xs ++ laid_out t placeholder (offset + 4 * length xs) ys
laid_append t placeholder offset [] ys =
    let none : offset ≡ offset + 4 * 0 = omega arith in
    ap (λ (n : ℕ). laid_out t placeholder n ys) none
laid_append t placeholder offset (x ∷ xs) ys =
    let next : offset + 4 + 4 * length xs ≡ offset + 4 * suc (length xs) = omega arith in
    ap (λ (rest : List Entry). record { type = entry_type t placeholder x.type; offset = offset; size = 4 } ∷ rest)
    (laid_append t placeholder (offset + 4) xs ys ∙ ap (λ (n : ℕ). laid_out t placeholder (offset + 4) xs ++ laid_out t placeholder n ys) next)

laid_len : (t : Table) (placeholder : Option ℕ) (offset : ℕ) (xs : List Entry) → length (flat_map model.entry_words (laid_out t placeholder offset xs)) ≡ 3 * length xs
laid_len t placeholder offset [] = refl
laid_len t placeholder offset (x ∷ xs) = omega (arith, laid_len t placeholder (offset + 4) xs)

abbrev zero_entry : DataSecEntry
zero_entry = record { btf_type = 0; offset = 0; size = 0 }

-- one more entry is laid out
pub laid_next : (t : Table) (placeholder : Option ℕ) (es : List DataSecEntry) (i new : ℕ) → i < length es → new ≡ entry_type t placeholder (get_or es i zero_entry).btf_type
    → take (3 * i) (laid_to t placeholder i es) ++ (new ∷ 4 * i ∷ 4 ∷ []) ++ drop (3 * i + 3) (laid_to t placeholder i es) ≡ laid_to t placeholder (i + 1) es
laid_next t placeholder es i new lt is =
    let e : DataSecEntry = get_or es i zero_entry in
    let front : List ℕ = flat_map model.entry_words (laid_out t placeholder 0 (map model_entry (take i es))) in
    let rest : List ℕ = flat_map code_entry_words (drop (suc i) es) in
    let more : i + 1 ≡ suc i = omega arith in
    let many : length (map model_entry (take i es)) ≡ i = omega (arith, length-map (take i es) model_entry, length-take i es, lt) in
    let here : laid_to t placeholder i es ≡ front ++ (code_entry_words e ++ rest) = ap (λ (xs : List DataSecEntry). front ++ flat_map code_entry_words xs) (drop-cons es i zero_entry lt) in
    let long : length front ≡ 3 * i = omega (arith, laid_len t placeholder 0 (map model_entry (take i es)), many) in
    let put : take (3 * i) (laid_to t placeholder i es) ++ (new ∷ 4 * i ∷ 4 ∷ []) ++ drop (3 * i + 3) (laid_to t placeholder i es) ≡ front ++ ((new ∷ 4 * i ∷ 4 ∷ []) ++ rest) =
    ap (λ (xs : List ℕ). take (3 * i) xs ++ (new ∷ 4 * i ∷ 4 ∷ []) ++ drop (3 * i + 3) xs) here
    ∙ append_assoc (take (3 * i) (front ++ (code_entry_words e ++ rest))) (new ∷ 4 * i ∷ 4 ∷ []) (drop (3 * i + 3) (front ++ (code_entry_words e ++ rest))) ∙ put_at front (code_entry_words e) rest (new ∷ 4 * i ∷ 4 ∷ []) (3 * i) (3 * i + 3) long refl in
    let offset : 0 + 4 * length (map model_entry (take i es)) ≡ 4 * i = omega (arith, many) in
    let laid : laid_out t placeholder 0 (map model_entry (take i es) ++ model_entry e ∷ []) ≡ laid_out t placeholder 0 (map model_entry (take i es)) ++ record { type = new; offset = 4 * i; size = 4 } ∷ [] =
    laid_append t placeholder 0 (map model_entry (take i es)) (model_entry e ∷ [])
    ∙ ap (λ (n : ℕ). laid_out t placeholder 0 (map model_entry (take i es)) ++ record { type = entry_type t placeholder e.btf_type; offset = n; size = 4 } ∷ []) offset
    ∙ ap (λ (n : ℕ). laid_out t placeholder 0 (map model_entry (take i es)) ++ record { type = n; offset = 4 * i; size = 4 } ∷ []) (sym is) in
    let then_laid : laid_to t placeholder (i + 1) es ≡ front ++ ((new ∷ 4 * i ∷ 4 ∷ []) ++ rest) =
    ap (λ (n : ℕ). laid_to t placeholder n es) more ∙ ap (λ (xs : List DataSecEntry). flat_map model.entry_words (laid_out t placeholder 0 (map model_entry xs)) ++ rest) (take-suc es i zero_entry lt)
    ∙ ap (λ (xs : List Entry). flat_map model.entry_words (laid_out t placeholder 0 xs) ++ rest) (map-append model_entry (take i es) (e ∷ []))
    ∙ ap (λ (xs : List Entry). flat_map model.entry_words xs ++ rest) laid
    ∙ ap (λ (xs : List ℕ). xs ++ rest) (flat_map-append model.entry_words (laid_out t placeholder 0 (map model_entry (take i es))) (record { type = new; offset = 4 * i; size = 4 } ∷ []))
    ∙ append_assoc front (new ∷ 4 * i ∷ 4 ∷ []) rest in
    put ∙ sym then_laid

-- all entries are laid out
pub laid_all : (t : Table) (placeholder : Option ℕ) (r : Record) (i : ℕ) (es fs : List DataSecEntry) → r.tail ≡ flat_map code_entry_words es → r.tail ≡ flat_map code_entry_words fs → length es ≤ i
    → record r { third = 4 * length fs; tail = laid_to t placeholder i es } ≡ laid_out_anew t placeholder r
laid_all t placeholder r i es fs words others end =
    let items : map model_entry es ≡ section_entries r.tail = sym (entries_of_words es) ∙ ap section_entries (sym words) in
    let count : length fs ≡ length (section_entries r.tail) = sym (length-map fs model_entry) ∙ ap length (sym (entries_of_words fs) ∙ ap section_entries (sym others)) in
    let tail : laid_to t placeholder i es ≡ flat_map model.entry_words (laid_out t placeholder 0 (section_entries r.tail)) =
    ap (λ (xs : List DataSecEntry). flat_map model.entry_words (laid_out t placeholder 0 (map model_entry xs)) ++ flat_map code_entry_words (drop i es)) (take_all i es end)
    ∙ ap (λ (xs : List DataSecEntry). flat_map model.entry_words (laid_out t placeholder 0 (map model_entry es)) ++ flat_map code_entry_words xs) (drop_all i es end)
    ∙ append-nil (flat_map model.entry_words (laid_out t placeholder 0 (map model_entry es))) ∙ ap (λ (xs : List Entry). flat_map model.entry_words (laid_out t placeholder 0 xs)) items in
    ap (λ (n : ℕ). record r { third = 4 * n; tail = laid_to t placeholder i es }) count ∙ ap (λ (xs : List ℕ). record r { third = 4 * length (section_entries r.tail); tail = xs }) tail

-- ---- what does not change

-- new names of parameters do not change their number
pub named_same_len : (name : ℕ) (words : List ℕ) → length (named_parameters name words) ≡ length words
named_same_len name [] = refl
named_same_len name (n ∷ []) = refl
named_same_len name (n ∷ type ∷ words) = omega (arith, named_same_len name words)

words_len : (es : List DataSecEntry) → length (flat_map code_entry_words es) ≡ 3 * length es
words_len [] = refl
words_len (e ∷ es) = omega (arith, words_len es)

pub laid_same_len : (t : Table) (placeholder : Option ℕ) (r : Record) (es : List DataSecEntry) → r.tail ≡ flat_map code_entry_words es → length (laid_out_anew t placeholder r).tail ≡ length r.tail
laid_same_len t placeholder r es words =
    let items : map model_entry es ≡ section_entries r.tail = sym (entries_of_words es) ∙ ap section_entries (sym words) in
    omega (arith, laid_len t placeholder 0 (section_entries r.tail), ap length (sym items), length-map es model_entry, words_len es, ap length words)
