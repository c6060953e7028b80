-- The entries of a DATASEC, one after another, and the filler for a DATASEC without entries.
use Rattle.std.proofs.Common.{◌≡◌, ℕ, suc, ◌+◌, ◌<◌, ◌≤◌, List, [], ◌∷◌, ◌++◌, length, take, drop, map, None, Some, sym, ap, subst, ◌∙◌, arith}
use Rattle.std.specs.List.{flat_map}
use Rattle.std.proofs.lemmas.List.{map-append, length-append, length-map, append-nil, take-append-drop, take_all}
use Rattle.std.proofs.Math.Seq.{take-suc, drop-cons}
use Rattle.std.proofs.lemmas.List.Concat.{flat_map-append}
use Rattle.btf_model.specs.Record.{Record}
use Rattle.btf_model.specs.Refusal.{Refusal}
use Rattle.btf_model.specs.Table.{Table}
use Rattle.btf_rewrite_model.specs.Made.{Entry, section_entries, byte_int, static_var}
use Rattle.btf_rewrite_model.specs.Checks.{Check, first_fault}
use Rattle.btf_rewrite_model.specs.Rewritten.{with_zero_byte}
use Rattle.btf_records.specs.BtfType.{record_of}
use Rattle.btf_plain.specs.Items.{code_entry_words}
use Rattle.btf_plain.specs.declared.items.DataSecEntry.{DataSecEntry}
use Rattle.btf_table.specs.Adding.{next_string_offset, next_id, Adds}
use Rattle.btf_table.specs.KsymsStep.{model_entry}
use Rattle.btf_table.specs.declared.table.changes.Changes.{Changes}
use Rattle.btf_table.proofs.Adding.{adds_then}
use Rattle.btf_table.proofs.Checks.{fault_after, fault_before}
use Rattle.btf_table.proofs.KsymsEntries.{at, zero_entry, entries_of_words}

-- ---- the filler

-- after a text is appended, the strings end later by its length and the zero byte
end_behind : (t : Table) (old new : Changes) (text : List ℕ) (rs : List Record) → Adds t old new (text ∷ []) rs → next_string_offset t new ≡ next_string_offset t old + length text + 1
end_behind t old new text rs adds =
    omega (arith, ap length adds.strings, length-append old.new_strings.items (flat_map with_zero_byte (text ∷ [])), length-append (with_zero_byte text) [], length-append text (0 ∷ []))

end_stays : (t : Table) (old new : Changes) (rs : List Record) → Adds t old new [] rs → next_string_offset t new ≡ next_string_offset t old
end_stays t old new rs adds = omega (arith, ap length adds.strings, length-append old.new_strings.items [])

pub id_stays : (t : Table) (old new : Changes) (ts : List (List ℕ)) → Adds t old new ts [] → next_id t new ≡ next_id t old
id_stays t old new ts adds =
    omega (arith, ap length adds.records, length-append (map record_of old.new_types.items) [], length-map new.new_types.items record_of, length-map old.new_types.items record_of)

-- an INT and a VAR of it, each with the text of its name before it
pub adds_int_and_var : (t : Table) (c0 c1 c2 c3 c4 : Changes) (text other : List ℕ) (int_name name id : ℕ) (int var : Record) → Adds t c0 c1 (text ∷ []) [] → Adds t c1 c2 [] (int ∷ []) → Adds t c2 c3 (other ∷ []) [] → Adds t c3 c4 [] (var ∷ [])
    → int_name ≡ next_string_offset t c0 → int ≡ byte_int int_name → id ≡ next_id t c1 → name ≡ next_string_offset t c2 → var ≡ static_var name id
    → Adds t c0 c4 (text ∷ other ∷ []) (byte_int (next_string_offset t c0) ∷ static_var (next_string_offset t c0 + length text + 1) (next_id t c0) ∷ [])
adds_int_and_var t c0 c1 c2 c3 c4 text other int_name name id int var first second third fourth int_at int_is id_is name_is var_is =
    let all : Adds t c0 c4 (text ∷ other ∷ []) (int ∷ var ∷ []) = adds_then t c0 c3 c4 (text ∷ other ∷ []) [] (int ∷ []) (var ∷ []) (adds_then t c0 c2 c3 (text ∷ []) (other ∷ []) (int ∷ []) [] (adds_then t c0 c1 c2 (text ∷ []) [] [] (int ∷ []) first second) third) fourth in
    let var_at : name ≡ next_string_offset t c0 + length text + 1 = name_is ∙ end_stays t c1 c2 (int ∷ []) second ∙ end_behind t c0 c1 text [] first in
    let int_same : int ≡ byte_int (next_string_offset t c0) = int_is ∙ ap byte_int int_at in
    let var_same : var ≡ static_var (next_string_offset t c0 + length text + 1) (next_id t c0) = var_is ∙ ap (λ (n : ℕ). static_var n id) var_at ∙ ap (static_var (next_string_offset t c0 + length text + 1)) (id_is ∙ id_stays t c0 c1 (text ∷ []) first) in
    subst (λ (rs : List Record). Adds t c0 c4 (text ∷ other ∷ []) rs) (ap (λ (r : Record). r ∷ var ∷ []) int_same ∙ ap (λ (r : Record). byte_int (next_string_offset t c0) ∷ r ∷ []) var_same) all

-- ---- entries one after another

-- the entries before a place, and the entry at it
up_to : (es : List DataSecEntry) (i : ℕ) → i < length es → take (i + 1) es ≡ take i es ++ at es i ∷ []
up_to es i lt =
    let more : i + 1 ≡ suc i = omega arith in
    ap (λ (n : ℕ). take n es) more ∙ take-suc es i zero_entry lt

map_up_to : (es : List DataSecEntry) (i : ℕ) → i < length es → map model_entry (take (i + 1) es) ≡ map model_entry (take i es) ++ model_entry (at es i) ∷ []
map_up_to es i lt = ap (map model_entry) (up_to es i lt) ∙ map-append model_entry (take i es) (at es i ∷ [])

-- one more entry passes its tests
pub one_more_passes : (checks : Entry → List Check) (es : List DataSecEntry) (i : ℕ) → i < length es → first_fault (flat_map checks (map model_entry (take i es))) ≡ None → first_fault (checks (model_entry (at es i))) ≡ None
    → first_fault (flat_map checks (map model_entry (take (i + 1) es))) ≡ None
one_more_passes checks es i lt before passed =
    ap (λ (xs : List Entry). first_fault (flat_map checks xs)) (map_up_to es i lt) ∙ ap first_fault (flat_map-append checks (map model_entry (take i es)) (model_entry (at es i) ∷ []))
    ∙ fault_after (flat_map checks (map model_entry (take i es))) (checks (model_entry (at es i)) ++ []) before ∙ ap first_fault (append-nil (checks (model_entry (at es i)))) ∙ passed

-- the first entry that does not pass counts
pub this_one_faults : (checks : Entry → List Check) (tail : List ℕ) (es : List DataSecEntry) (i : ℕ) (refusal : Refusal) → tail ≡ flat_map code_entry_words es → i < length es
    → first_fault (flat_map checks (map model_entry (take i es))) ≡ None → first_fault (checks (model_entry (at es i))) ≡ Some refusal → first_fault (flat_map checks (section_entries tail)) ≡ Some refusal
this_one_faults checks tail es i refusal words lt before faults =
    let e : DataSecEntry = at es i in
    let rest : List DataSecEntry = drop (suc i) es in
    let split : es ≡ take i es ++ e ∷ rest = sym (take-append-drop i es) ∙ ap (λ (xs : List DataSecEntry). take i es ++ xs) (drop-cons es i zero_entry lt) in
    ap (λ (xs : List Entry). first_fault (flat_map checks xs)) (ap section_entries words ∙ entries_of_words es ∙ ap (map model_entry) split ∙ map-append model_entry (take i es) (e ∷ rest))
    ∙ ap first_fault (flat_map-append checks (map model_entry (take i es)) (map model_entry (e ∷ rest)))
    ∙ fault_after (flat_map checks (map model_entry (take i es))) (checks (model_entry e) ++ flat_map checks (map model_entry rest)) before ∙ fault_before (checks (model_entry e)) (flat_map checks (map model_entry rest)) refusal faults

-- the words that entries become, before a place and at it
pub one_more_becomes : {X : Type 0} (f : Entry → List X) (es : List DataSecEntry) (i : ℕ) (old new : List X) → i < length es → old ≡ flat_map f (map model_entry (take i es)) → new ≡ f (model_entry (at es i)) → old ++ new ≡ flat_map f (map model_entry (take (i + 1) es))
one_more_becomes f es i old new lt before is =
    ap (λ xs. xs ++ new) before ∙ ap (λ xs. flat_map f (map model_entry (take i es)) ++ xs) (is ∙ sym (append-nil (f (model_entry (at es i)))))
    ∙ sym (ap (flat_map f) (map_up_to es i lt) ∙ flat_map-append f (map model_entry (take i es)) (model_entry (at es i) ∷ []))

-- the entries that others become, before a place and at it
pub one_more_maps : (f : Entry → Entry) (es : List DataSecEntry) (i : ℕ) (old : List Entry) (new : Entry) → i < length es → old ≡ map f (map model_entry (take i es)) → new ≡ f (model_entry (at es i)) → old ++ new ∷ [] ≡ map f (map model_entry (take (i + 1) es))
one_more_maps f es i old new lt before is =
    ap (λ (xs : List Entry). xs ++ new ∷ []) before ∙ ap (λ (x : Entry). map f (map model_entry (take i es)) ++ x ∷ []) is
    ∙ sym (ap (map f) (map_up_to es i lt) ∙ map-append f (map model_entry (take i es)) (model_entry (at es i) ∷ []))

-- after the last entry, all are done
pub all_entries : (tail : List ℕ) (es : List DataSecEntry) (i : ℕ) → tail ≡ flat_map code_entry_words es → length es ≤ i → map model_entry (take i es) ≡ section_entries tail
all_entries tail es i words end = ap (map model_entry) (take_all i es end) ∙ sym (entries_of_words es) ∙ ap section_entries (sym words)
