-- The externs of `.kconfig`, and their layout.
use Rattle.std.proofs.Common.{◌≡◌, ℕ, zero, suc, ◌+◌, ◌*◌, ◌<◌, ◌≤◌, ◌^◌, Bool, List, [], ◌∷◌, ◌++◌, length, get_or, take, map, Option, None, Some, refl, sym, ap, subst, ◌∙◌, ⊎_elim, arith, is_lt}
use Rattle.std.specs.Prelude.{slice_get, IfSome, IfNone, Vec}
use Rattle.std.specs.List.{AllByRecursion, flat_map}
use Rattle.std.specs.List.Sorted.{ties, IsSorted, IsSortedBy, IsStable, IsStableBy}
use Rattle.std.specs.Option.{option_map, unwrap_or}
use Rattle.std.proofs.lemmas.Bool.{cases_lt}
use Rattle.std.proofs.lemmas.List.{map-append, length-append, length-map, get_or-map, take_more, take_all}
use Rattle.std.proofs.lemmas.Option.{same_Some, none-some, slice_get-get_or, slice_get-map}
use Rattle.btf_model.specs.Record as kinds
use Rattle.btf_model.specs.Record.{Kind, Record, unknown, kind_of, vlen}
use Rattle.btf_model.specs.Table.{Table}
use Rattle.btf_rewrite_model.specs.Made.{Entry, section_entries, record_at, kind_at}
use Rattle.btf_rewrite_model.specs.Made as made
use Rattle.btf_plain.specs.Items.{code_entry_words}
use Rattle.btf_plain.specs.declared.items.DataSecEntry.{DataSecEntry}
use Rattle.btf_table.specs.KsymsStep.{model_entry}
use Rattle.btf_table.proofs.KsymsEntries.{at, zero_entry}
use Rattle.btf_object_model.specs.Kconfig as model
use Rattle.btf_object_model.specs.Kconfig.{FindsValue, FindsExternBy, FindsExtern, FindsExterns, extern_name, extern_cmp, total, externs_laid_out}
use Rattle.btf_object.specs.Kconfig.{model_extern, IsVariable, HasExterns, IsKconfigSection, AreLaidOut}
use Rattle.btf_object.specs.declared.finalize.kconfig.Extern.{Extern}
use Rattle.btf_object.proofs.FinalSections.{all_entries, entries_up_to, entries_len, filter-map, entry_words_same}

-- ---- types of a kind

pub at_id : (t : Table) (id : ℕ) (r : Record) → slice_get t.records id ≡ Some r → record_at t id ≡ r
at_id t id r here = ap (λ (o : Option Record). unwrap_or o unknown) here

pub kind_at_id : (t : Table) (id : ℕ) (r : Record) (k : Kind) → slice_get t.records id ≡ Some r → kind_of r.info ≡ Some k → kind_at t id ≡ Some k
kind_at_id t id r k here kind = ap (λ (x : Record). kind_of x.info) (at_id t id r here) ∙ kind

-- ---- the extern of an entry

-- the value of a variable is not known
pub value_unknown : (t : Table) (e : Entry) (r : Record) (type : ℕ) (value : Option model.ConfigValue) → IsVariable t e.type r → type ≡ r.third → FindsValue t type value → value ≡ None → FindsExtern t e None
value_unknown t e r type value is type_is found none =
    let finds : FindsValue t r.third value = subst (λ (n : ℕ). FindsValue t n value) type_is found in
    subst (λ (k : Option Kind). FindsExternBy t k (record_at t e.type) e None) (sym (kind_at_id t e.type r kinds.Var is.here is.kind))
    (subst (λ (x : Record). FindsExternBy t (Some kinds.Var) x e None) (sym (at_id t e.type r is.here)) (value, finds, sym (ap (λ (v : Option model.ConfigValue). model.extern_of e v (extern_name t.strings r.name)) none)))

-- the entry of an extern
entry_made : (e : Entry) (value : Option model.ConfigValue) (name : Option (List ℕ)) (x : model.Extern) → Some x ≡ model.extern_of e value name → x.entry ≡ e
entry_made e (Some value) (Some name) x is = ap (λ (y : model.Extern). y.entry) (same_Some x (record { entry = e; value = value; name = name }) is)
entry_made e (Some value) None x is = absurd (none-some x (sym is))
entry_made e None name x is = absurd (none-some x (sym is))

entry_by : (t : Table) (k : Option Kind) (r : Record) (e : Entry) (x : model.Extern) → FindsExternBy t k r e (Some x) → x.entry ≡ e
entry_by t k r e x finds =
    elim k as (λ (k : Option Kind). FindsExternBy t k r e (Some x) → x.entry ≡ e) [
      | Some kinds.Var ↦ λ f. entry_made e f.0 (extern_name t.strings r.name) x f.2
      | _ ↦ λ is. absurd (none-some x (sym is))
    ] finds

entry_is : (t : Table) (e : Entry) (x : model.Extern) → FindsExtern t e (Some x) → x.entry ≡ e
entry_is t e x finds = entry_by t (kind_at t e.type) (record_at t e.type) e x finds

-- ---- the externs of all entries

abbrev pub entries_are : List model.Extern → List Entry
entries_are xs = map (λ (x : model.Extern). x.entry) xs

abbrev pub AreExterns : Table → List model.Extern → Type 0
AreExterns t xs = AllByRecursion (λ x. FindsExtern t x.entry (Some x)) xs

all-append : (t : Table) (xs : List model.Extern) (x : model.Extern) → AreExterns t xs → FindsExtern t x.entry (Some x) → AreExterns t (xs ++ x ∷ [])
all-append t [] x all finds = (finds, tt)
all-append t (y ∷ ys) x all finds = (all.0, all-append t ys x all.1 finds)

-- The entries before a place have known externs, and these are they.
pub record AreKnownBefore (t : Table) (es : List DataSecEntry) (i : ℕ) (xs : List Extern) : Type 0 where
  pub are : map (λ (x : model.Extern). x.entry) (map model_extern xs) ≡ map model_entry (take i es)
  pub known : AllByRecursion (λ x. FindsExtern t x.entry (Some x)) (map model_extern xs)
  pub count : length xs ≡ i

pub none_known : (t : Table) (es : List DataSecEntry) → AreKnownBefore t es 0 []
none_known t es = record { are = refl; known = tt; count = refl }

pub one_known : (t : Table) (es : List DataSecEntry) (i : ℕ) (xs new : List Extern) (x : Extern) → i < length es → AreKnownBefore t es i xs → FindsExtern t (model_entry (at es i)) (Some (model_extern x)) → new ≡ xs ++ x ∷ [] → AreKnownBefore t es (i + 1) new
one_known t es i xs new x lt p finds is =
    let m : model.Extern = model_extern x in
    let here : m.entry ≡ model_entry (at es i) = entry_is t (model_entry (at es i)) m finds in
    let added : map model_extern new ≡ map model_extern xs ++ m ∷ [] = ap (map model_extern) is ∙ map-append model_extern xs (x ∷ []) in
    record {
      are = ap entries_are added ∙ map-append (λ (y : model.Extern). y.entry) (map model_extern xs) (m ∷ []) ∙ ap (λ (ys : List Entry). ys ++ m.entry ∷ []) p.are
          ∙ ap (λ (e : Entry). map model_entry (take i es) ++ e ∷ []) here ∙ sym (entries_up_to es i lt);
      known = subst (AreExterns t) (sym added) (all-append t (map model_extern xs) m p.known (subst (λ (e : Entry). FindsExtern t e (Some m)) (sym here) finds));
      count = omega (arith, ap (λ (ys : List Extern). length ys) is, length-append xs (x ∷ []), p.count);
    }

pub all_known : (t : Table) (tail : List ℕ) (es : List DataSecEntry) (i : ℕ) (xs : List Extern) → tail ≡ flat_map code_entry_words es → length es ≤ i → AreKnownBefore t es i xs → FindsExterns t (section_entries tail) (Some (map model_extern xs))
all_known t tail es i xs words end p = (p.are ∙ ap (map model_entry) (take_all i es end) ∙ sym (all_entries tail es words), p.known)

pub unknown_there : (t : Table) (tail : List ℕ) (es : List DataSecEntry) (i : ℕ) (found : Option Extern) → tail ≡ flat_map code_entry_words es → i < length es → FindsExtern t (model_entry (at es i)) (option_map model_extern found) → found ≡ None → FindsExterns t (section_entries tail) None
unknown_there t tail es i found words lt finds none = (
  i,
  model_entry (at es i),
  ap (λ (xs : List Entry). slice_get xs i) (all_entries tail es words) ∙ slice_get-map model_entry es i ∙ ap (option_map model_entry) (slice_get-get_or es i zero_entry lt),
  subst (λ (o : Option Extern). FindsExtern t (model_entry (at es i)) (option_map model_extern o)) none finds,
)

-- ---- the layout

total-append : (xs : List model.Extern) (x : model.Extern) → total (xs ++ x ∷ []) ≡ total xs + x.value.size
total-append [] x = omega arith
total-append (y ∷ ys) x = let rest : total (ys ++ x ∷ []) ≡ total ys + x.value.size = total-append ys x in omega (arith, rest)

before_zero : (n : ℕ) → n ≡ n + 0
before_zero n = omega arith

laid_out-append : (from : ℕ) (xs : List model.Extern) (x : model.Extern) → externs_laid_out from (xs ++ x ∷ []) ≡ externs_laid_out from xs ++ record x.entry { offset = from + total xs } ∷ []
laid_out-append from [] x = ap (λ (n : ℕ). record x.entry { offset = n } ∷ []) (before_zero from)
laid_out-append from (y ∷ ys) x =
    let after : (from + y.value.size) + total ys ≡ from + total (y ∷ ys) = omega arith in
    ap (λ (es : List Entry). record y.entry { offset = from } ∷ es)
    (laid_out-append (from + y.value.size) ys x ∙ ap (λ (n : ℕ). externs_laid_out (from + y.value.size) ys ++ record x.entry { offset = n } ∷ []) after)

total_take : (i : ℕ) (xs : List Extern) → total (map model_extern (take i xs)) ≤ total (map model_extern xs)
total_take zero xs = omega arith
total_take (suc i) [] = omega arith
total_take (suc i) (x ∷ xs) = let rest : total (map model_extern (take i xs)) ≤ total (map model_extern xs) = total_take i xs in omega (arith, rest)

after_zero : (n : ℕ) → n ≡ 0 + n
after_zero n = omega arith

-- The externs before a place have these entries, and end here.
pub record AreLaidOutBefore (xs : List Extern) (i : ℕ) (es : List DataSecEntry) (size : ℕ) : Type 0 where
  pub are : map model_entry es ≡ externs_laid_out 0 (map model_extern (take i xs))
  pub ends : size ≡ total (map model_extern (take i xs))
  pub small : size < 2 ^ 32

externs_up_to : (xs : List Extern) (i : ℕ) (d : Extern) → i < length xs → map model_extern (take (i + 1) xs) ≡ map model_extern (take i xs) ++ model_extern (get_or xs i d) ∷ []
externs_up_to xs i d lt = ap (map model_extern) (take_more xs i d lt) ∙ map-append model_extern (take i xs) (get_or xs i d ∷ [])

pub one_laid_out : (xs : List Extern) (i : ℕ) (d : Extern) (es new : List DataSecEntry) (size end : ℕ) → i < length xs → AreLaidOutBefore xs i es size
    → new ≡ es ++ record { btf_type = (get_or xs i d).entry.now.btf_type; offset = size; size = (get_or xs i d).entry.now.size } ∷ [] → size + (get_or xs i d).value.size < 2 ^ 32 → end ≡ size + (get_or xs i d).value.size → AreLaidOutBefore xs (i + 1) new end
one_laid_out xs i d es new size end lt p is fits end_is =
    let x : Extern = get_or xs i d in
    let before : List model.Extern = map model_extern (take i xs) in
    let more : map model_extern (take (i + 1) xs) ≡ before ++ model_extern x ∷ [] = externs_up_to xs i d lt in
    let e : DataSecEntry = record { btf_type = x.entry.now.btf_type; offset = size; size = x.entry.now.size } in
    record {
      are = ap (map model_entry) is ∙ map-append model_entry es (e ∷ []) ∙ ap (λ (ys : List Entry). ys ++ model_entry e ∷ []) p.are
          ∙ ap (λ (n : ℕ). externs_laid_out 0 before ++ record (model_entry x.entry.now) { offset = n } ∷ []) (p.ends ∙ after_zero (total before)) ∙ sym (ap (externs_laid_out 0) more ∙ laid_out-append 0 before (model_extern x));
      ends = end_is ∙ ap (λ (n : ℕ). n + x.value.size) p.ends ∙ sym (ap total more ∙ total-append before (model_extern x));
      small = omega (arith, fits, end_is);
    }

pub all_laid_out : (xs : List Extern) (i : ℕ) (es : List DataSecEntry) (size : ℕ) → length xs ≤ i → AreLaidOutBefore xs i es size → AreLaidOut xs es size
all_laid_out xs i es size end p =
    (p.are ∙ ap (λ (ys : List Extern). externs_laid_out 0 (map model_extern ys)) (take_all i xs end), p.ends ∙ ap (λ (ys : List Extern). total (map model_extern ys)) (take_all i xs end), p.small)

-- the size exceeds 32 bits before the end
pub too_large : (xs : List Extern) (i : ℕ) (d : Extern) (es : List DataSecEntry) (size : ℕ) → i < length xs → AreLaidOutBefore xs i es size → 2 ^ 32 ≤ size + (get_or xs i d).value.size → 2 ^ 32 ≤ total (map model_extern xs)
too_large xs i d es size lt p large =
    let here : total (map model_extern (take (i + 1) xs)) ≡ total (map model_extern (take i xs)) + (get_or xs i d).value.size =
    ap total (externs_up_to xs i d lt) ∙ total-append (map model_extern (take i xs)) (model_extern (get_or xs i d)) in
    let rest : total (map model_extern (take (i + 1) xs)) ≤ total (map model_extern xs) = total_take (i + 1) xs in
    omega (arith, here, rest, large, p.ends)

pub at_least : (n m : ℕ) → (n < m → ⊥) → m ≤ n
at_least n m not = ⊎_elim (λ (lt : n < m). absurd (not lt)) (λ (le : m ≤ n). le) (cases_lt n m)

-- ---- the order

-- the test of the order, by the externs of the definitions
abbrev pub is_below : Extern → Extern → Bool
is_below x y = is_lt (extern_cmp (model_extern x) (model_extern y))

-- an extern of the code that is this one of the definitions
like : Extern → model.Extern → Extern
like s x = record s {
  entry = record s.entry { now = record { btf_type = x.entry.type; offset = x.entry.offset; size = x.entry.size } };
  value = record { size = x.value.size; alignment = x.value.alignment };
  name = record s.name { now = x.name };
}

sorted_some : (s : Extern) (xs sorted : List Extern) → IsSortedBy is_below sorted → IsStableBy is_below xs sorted → IsSorted extern_cmp (map model_extern sorted) × IsStable extern_cmp (map model_extern xs) (map model_extern sorted)
unfolding like
sorted_some s xs sorted rising stable =
    let len : length (map model_extern sorted) ≡ length sorted = length-map sorted model_extern in (
      λ k d low high.
          let there : k + 1 < length sorted = omega (arith, high, len) in
          let next : get_or (map model_extern sorted) (k + 1) d ≡ model_extern (get_or sorted (k + 1) s) = get_or-map model_extern sorted (k + 1) s d there in
          let this : get_or (map model_extern sorted) k d ≡ model_extern (get_or sorted k s) = get_or-map model_extern sorted k s d (omega (arith, there)) in
          (λ i. is_lt (extern_cmp (next i) (this i))) ∙ rising k s low there,
      λ x.
          let p : model.Extern → Bool = ties (λ (a b : model.Extern). is_lt (extern_cmp a b)) x in
          filter-map p model_extern sorted ∙ ap (map model_extern) (stable (like s x)) ∙ sym (filter-map p model_extern xs),
    )

no_externs : (sorted : List Extern) → length sorted ≡ 0 → sorted ≡ []
no_externs [] is = refl
no_externs (x ∷ xs) is = absurd (omega (arith, is))

pub are_sorted : (xs sorted : List Extern) → length sorted ≡ length xs → IsSortedBy is_below sorted → IsStableBy is_below xs sorted → IsSorted extern_cmp (map model_extern sorted) × IsStable extern_cmp (map model_extern xs) (map model_extern sorted)
are_sorted [] sorted len rising stable =
    subst (λ (ys : List Extern). IsSorted extern_cmp (map model_extern ys) × IsStable extern_cmp [] (map model_extern ys)) (sym (no_externs sorted len)) (λ k d low high. absurd (omega (arith, high)), λ x. refl)
are_sorted (s ∷ xs) sorted len rising stable = sorted_some s (s ∷ xs) sorted rising stable

-- ---- the DATASEC

laid_out-len : (from : ℕ) (xs : List model.Extern) → length (externs_laid_out from xs) ≡ length xs
laid_out-len from [] = refl
laid_out-len from (x ∷ xs) = let rest : length (externs_laid_out (from + x.value.size) xs) ≡ length xs = laid_out-len (from + x.value.size) xs in omega (arith, rest)

pub has_externs : (t : Table) (r : Record) (xs sorted : List Extern) → FindsExterns t (section_entries r.tail) (Some (map model_extern xs)) → length sorted ≡ length xs → IsSortedBy is_below sorted → IsStableBy is_below xs sorted → HasExterns t r (map model_extern sorted)
has_externs t r xs sorted known len rising stable =
    let both = are_sorted xs sorted len rising stable in
    record { externs = map model_extern xs; known = known; rising = both.0; stable = both.1 }

-- the number of entries
pub entries_count : (sorted : List Extern) (es : List DataSecEntry) → map model_entry es ≡ externs_laid_out 0 (map model_extern sorted) → length es ≡ length sorted
entries_count sorted es are =
    sym (length-map es model_entry) ∙ ap (λ (xs : List Entry). length xs) are ∙ laid_out-len 0 (map model_extern sorted) ∙ length-map sorted model_extern

pub section_made : (t : Table) (r new : Record) (sorted : List Extern) (es : List DataSecEntry) (size count : ℕ) → HasExterns t r (map model_extern sorted) → r.third ≡ 0 → AreLaidOut sorted es size → count ≡ vlen r.info → length es ≡ vlen r.info → length r.tail ≡ 3 * vlen r.info
    → new ≡ record { name = r.name; info = 15 * 2 ^ 24 + count; third = size; tail = flat_map code_entry_words es } → IsKconfigSection t r new
section_made t r new sorted es size count externs empty laid count_is len_is tail_len is =
    let words : flat_map code_entry_words es ≡ flat_map made.entry_words (externs_laid_out 0 (map model_extern sorted)) = entry_words_same es ∙ ap (flat_map made.entry_words) laid.0 in
    let words_len : length (flat_map code_entry_words es) ≡ 3 * length es = entries_len es in
    record {
      sorted = map model_extern sorted;
      externs = externs;
      empty = empty;
      fits = subst (λ (n : ℕ). n < 2 ^ 32) laid.1 laid.2;
      made = is ∙ ap (λ (n : ℕ). record { name = r.name; info = 15 * 2 ^ 24 + n; third = size; tail = flat_map code_entry_words es }) count_is
          ∙ ap (λ (n : ℕ). record { name = r.name; info = 15 * 2 ^ 24 + vlen r.info; third = n; tail = flat_map code_entry_words es }) laid.1
          ∙ ap (λ (ws : List ℕ). record { name = r.name; info = 15 * 2 ^ 24 + vlen r.info; third = total (map model_extern sorted); tail = ws }) words;
      len = ap (λ (x : Record). length x.tail) is ∙ words_len ∙ ap (λ (n : ℕ). 3 * n) len_is ∙ sym tail_len;
    }

-- what is known if there is a value, and if there is none
pub if_some : {X : Type 0} (o : Option X) (x : X) (P : X → Type 0) → o ≡ Some x → IfSome o P → P x
if_some o x P is h = subst (λ (y : Option _). IfSome y P) is h

pub if_none : {X : Type 0} (o : Option X) (P : Type 0) → o ≡ None → IfNone o P → P
if_none o P is h = subst (λ (y : Option _). IfNone y P) is h

pub known_some : {A : Type 0} (t : Table) (es : List Entry) (o : Option (Vec Extern A)) (v : Vec Extern A) → o ≡ Some v → FindsExterns t es (option_map (λ v. map model_extern v.items) o) → FindsExterns t es (Some (map model_extern v.items))
known_some {A} t es o v is h = subst (λ (y : Option (Vec Extern A)). FindsExterns t es (option_map (λ v. map model_extern v.items) y)) is h
