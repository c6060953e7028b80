-- The entries of `.ksyms`, one after another.
use Rattle.std.proofs.Common.{◌≡◌, ℕ, ◌+◌, ◌<◌, ◌≤◌, Bool, true, false, cond, ◌||◌, ◌&&◌, List, [], ◌∷◌, ◌++◌, length, get_or, take, drop, map, suc, Option, None, Some, Ok, Err, refl, sym, ap, subst, ◌∙◌, arith}
use Rattle.std.specs.Prelude.{◌==◌, if◌then◌else◌}
use Rattle.std.specs.List.{flat_map, list_any}
use Rattle.std.proofs.lemmas.List.{map-append, append-nil, take-append-drop, take_all}
use Rattle.std.proofs.Math.Seq.{take-suc, drop-cons}
use Rattle.std.proofs.lemmas.List.Concat.{flat_map-append}
use Rattle.std.proofs.lemmas.List.Folds.{list_any-append}
use Rattle.btf_model.specs.Refusal.{Refusal}
use Rattle.btf_model.specs.Table.{Table}
use Rattle.btf_rewrite_model.specs.Made.{Entry, section_entries, record_at, kind_at}
use Rattle.btf_rewrite_model.specs.Checks.{Check, first_fault}
use Rattle.btf_rewrite_model.specs.Ksyms.{is_func, ksyms_entry_checks}
use Rattle.btf_plain.specs.Items.{code_entry_words}
use Rattle.btf_plain.specs.declared.items.DataSecEntry.{DataSecEntry}
use Rattle.btf_table.specs.KsymsStep.{model_entry, has_id, is_this, prototype_of, HasSymbols, FindsSymbols}
use Rattle.btf_table.specs.declared.sanitize.ksyms.Symbols.{Symbols}
use Rattle.btf_table.proofs.Checks.{fault_after, fault_before}

-- the words of entries are read as these
pub entries_of_words : (es : List DataSecEntry) → section_entries (flat_map code_entry_words es) ≡ map model_entry es
entries_of_words [] = refl
entries_of_words (e ∷ es) = ap (λ (rest : List Entry). model_entry e ∷ rest) (entries_of_words es)

-- one more entry passes its tests
pub one_more_passes : (t : Table) (placeholder : Option ℕ) (es : List DataSecEntry) (e : DataSecEntry) → first_fault (flat_map (ksyms_entry_checks t placeholder) (map model_entry es)) ≡ None
    → first_fault (ksyms_entry_checks t placeholder (model_entry e)) ≡ None → first_fault (flat_map (ksyms_entry_checks t placeholder) (map model_entry (es ++ e ∷ []))) ≡ None
one_more_passes t placeholder es e before passed =
    let checks : Entry → List Check = ksyms_entry_checks t placeholder in
    ap (λ (xs : List Entry). first_fault (flat_map checks xs)) (map-append model_entry es (e ∷ [])) ∙ ap first_fault (flat_map-append checks (map model_entry es) (model_entry e ∷ []))
    ∙ fault_after (flat_map checks (map model_entry es)) (checks (model_entry e) ++ []) before ∙ ap first_fault (append-nil (checks (model_entry e))) ∙ passed

-- the first entry that does not pass counts
pub one_faults : (t : Table) (placeholder : Option ℕ) (es : List DataSecEntry) (e : DataSecEntry) (rest : List DataSecEntry) (refusal : Refusal) → first_fault (flat_map (ksyms_entry_checks t placeholder) (map model_entry es)) ≡ None
    → first_fault (ksyms_entry_checks t placeholder (model_entry e)) ≡ Some refusal → first_fault (flat_map (ksyms_entry_checks t placeholder) (map model_entry (es ++ e ∷ rest))) ≡ Some refusal
one_faults t placeholder es e rest refusal before faults =
    let checks : Entry → List Check = ksyms_entry_checks t placeholder in
    ap (λ (xs : List Entry). first_fault (flat_map checks xs)) (map-append model_entry es (e ∷ rest)) ∙ ap first_fault (flat_map-append checks (map model_entry es) (map model_entry (e ∷ rest)))
    ∙ fault_after (flat_map checks (map model_entry es)) (checks (model_entry e) ++ flat_map checks (map model_entry rest)) before ∙ fault_before (checks (model_entry e)) (flat_map checks (map model_entry rest)) refusal faults

-- a test of one more entry
pub any_more : (test : Entry → Bool) (es : List DataSecEntry) (e : DataSecEntry) → list_any test (map model_entry (es ++ e ∷ [])) ≡ cond (test (model_entry e)) true (list_any test (map model_entry es))
any_more test es e =
    ap (list_any test) (map-append model_entry es (e ∷ [])) ∙ list_any-append test (map model_entry es) (model_entry e ∷ []) ∙ either (list_any test (map model_entry es)) (test (model_entry e))
  where
    either : (a b : Bool) → (a || (b || false)) ≡ cond b true a
    either true true = refl
    either true false = refl
    either false true = refl
    either false false = refl

abbrev pub zero_entry : DataSecEntry
zero_entry = record { btf_type = 0; offset = 0; size = 0 }

-- the entry at a place
abbrev pub at : List DataSecEntry → ℕ → DataSecEntry
at es i = get_or es i zero_entry

-- the entries before a place, and the entry at it
up_to : (es : List DataSecEntry) (i : ℕ) → i < length es → take (i + 1) es ≡ take i es ++ at es i ∷ []
up_to es i lt =
    let more : i + 1 ≡ suc i = omega arith in
    ap (λ (n : ℕ). take n es) more ∙ take-suc es i zero_entry lt

pub passes_up_to : (t : Table) (placeholder : Option ℕ) (es : List DataSecEntry) (i : ℕ) → i < length es → first_fault (flat_map (ksyms_entry_checks t placeholder) (map model_entry (take i es))) ≡ None
    → first_fault (ksyms_entry_checks t placeholder (model_entry (at es i))) ≡ None → first_fault (flat_map (ksyms_entry_checks t placeholder) (map model_entry (take (i + 1) es))) ≡ None
passes_up_to t placeholder es i lt before passed =
    ap (λ (xs : List DataSecEntry). first_fault (flat_map (ksyms_entry_checks t placeholder) (map model_entry xs))) (up_to es i lt) ∙ one_more_passes t placeholder (take i es) (at es i) before passed

pub faults_at : (t : Table) (placeholder : Option ℕ) (es : List DataSecEntry) (i : ℕ) (refusal : Refusal) → i < length es → first_fault (flat_map (ksyms_entry_checks t placeholder) (map model_entry (take i es))) ≡ None
    → first_fault (ksyms_entry_checks t placeholder (model_entry (at es i))) ≡ Some refusal → first_fault (flat_map (ksyms_entry_checks t placeholder) (map model_entry es)) ≡ Some refusal
faults_at t placeholder es i refusal lt before faults =
    ap (λ (xs : List DataSecEntry). first_fault (flat_map (ksyms_entry_checks t placeholder) (map model_entry xs))) (sym (take-append-drop i es) ∙ ap (λ (xs : List DataSecEntry). take i es ++ xs) (drop-cons es i zero_entry lt))
    ∙ one_faults t placeholder (take i es) (at es i) (drop (suc i) es) refusal before faults

any_up_to : (test : Entry → Bool) (es : List DataSecEntry) (i : ℕ) → i < length es → list_any test (map model_entry (take (i + 1) es)) ≡ cond (test (model_entry (at es i))) true (list_any test (map model_entry (take i es)))
any_up_to test es i lt = ap (λ (xs : List DataSecEntry). list_any test (map model_entry xs)) (up_to es i lt) ∙ any_more test (take i es) (at es i)

-- the refusal of an entry that does not pass is what the search returns
pub fault_found : (t : Table) (placeholder : Option ℕ) (tail : List ℕ) (es : List DataSecEntry) (i : ℕ) (refusal : Refusal) → tail ≡ flat_map code_entry_words es → i < length es
    → first_fault (flat_map (ksyms_entry_checks t placeholder) (map model_entry (take i es))) ≡ None → first_fault (ksyms_entry_checks t placeholder (model_entry (at es i))) ≡ Some refusal → FindsSymbols t placeholder (section_entries tail) (Err refusal)
fault_found t placeholder tail es i refusal words lt before faults =
    subst (λ (xs : List Entry). FindsSymbols t placeholder xs (Err refusal)) (sym (entries_of_words es) ∙ ap section_entries (sym words)) (faults_at t placeholder es i refusal lt before faults)

-- after the last entry, all have passed
pub found_symbols : (t : Table) (placeholder : Option ℕ) (tail : List ℕ) (es : List DataSecEntry) (i : ℕ) (symbols : Symbols) → tail ≡ flat_map code_entry_words es → length es ≤ i
    → (first_fault (flat_map (ksyms_entry_checks t placeholder) (map model_entry (take i es))) ≡ None) × HasSymbols t (map model_entry (take i es)) symbols → FindsSymbols t placeholder (section_entries tail) (Ok symbols)
found_symbols t placeholder tail es i symbols words end found =
    subst (λ (xs : List Entry). FindsSymbols t placeholder xs (Ok symbols)) (ap (map model_entry) (take_all i es end) ∙ sym (entries_of_words es) ∙ ap section_entries (sym words)) found

this_or_not : (f : Bool) (prototype id : ℕ) → is_this (if f then Some prototype else None) id ≡ (f && (prototype == id))
this_or_not true prototype id = refl
this_or_not false prototype id = refl

-- one more entry adds its id and its prototype
pub symbols_up_to : (t : Table) (es : List DataSecEntry) (i : ℕ) (old new : Symbols) (prototype : Option ℕ) → i < length es → HasSymbols t (map model_entry (take i es)) old
    → prototype ≡ prototype_of t (at es i).btf_type → ((q : ℕ) → has_id new.ids q ≡ cond ((at es i).btf_type == q) true (has_id old.ids q)) → ((q : ℕ) → has_id new.prototypes q ≡ cond (is_this prototype q) true (has_id old.prototypes q))
    → HasSymbols t (map model_entry (take (i + 1) es)) new
symbols_up_to t es i old new prototype lt before is ids prototypes =
    let id : ℕ = (at es i).btf_type in
    record {
      ids = λ q. ids q ∙ ap (λ (b : Bool). cond (id == q) true b) (before.ids q) ∙ sym (any_up_to (λ (e : Entry). e.type == q) es i lt);
      prototypes = λ q.
          prototypes q ∙ ap (λ (b : Bool). cond (is_this prototype q) true b) (before.prototypes q)
          ∙ ap (λ (b : Bool). cond b true (list_any (λ (e : Entry). is_func (kind_at t e.type) && ((record_at t e.type).third == q)) (map model_entry (take i es))))
          (ap (λ (o : Option ℕ). is_this o q) is ∙ this_or_not (is_func (kind_at t id)) (record_at t id).third q)
          ∙ sym (any_up_to (λ (e : Entry). is_func (kind_at t e.type) && ((record_at t e.type).third == q)) es i lt);
    }
