-- The entries of a DATASEC that is finalized.
use Rattle.std.proofs.Common.{◌≡◌, ℕ, ◌+◌, ◌*◌, ◌^◌, ◌<◌, ◌≤◌, Bool, true, false, ◌&&◌, ◌||◌, cond, List, [], ◌∷◌, ◌++◌, length, get_or, set, take, filter, map, Option, None, Some, refl, sym, ap, subst, ◌∙◌, arith, nat_cmp, is_lt}
use Rattle.std.specs.Prelude.{◌==◌, if◌then◌else◌, slice_get}
use Rattle.std.specs.List.{flat_map, list_all, list_any}
use Rattle.std.specs.List.Sorted.{ties, IsSortedByKey, IsStableByKey}
use Rattle.std.specs.Option.{unwrap_or, option_map, is_some}
use Rattle.std.proofs.lemmas.Option.{same_Some, none-some}
use Rattle.std.proofs.lemmas.List.{map-append, length-append, length-map, get_or-map, map-set, take_all, take_more}
use Rattle.std.proofs.lemmas.List.Folds.{list_all-append, list_all-map, list_all_at}
use Rattle.btf_model.specs.Record as kinds
use Rattle.btf_model.specs.Record.{Kind, Record, unknown, kind_of, vlen}
use Rattle.btf_model.specs.Table.{Table}
use Rattle.btf_model.specs.Text.{text_at}
use Rattle.btf_rewrite_model.specs.Made.{Entry, section_entries, record_at, kind_at, made_data_sec}
use Rattle.btf_rewrite_model.specs.Made as made
use Rattle.btf_rewrite_model.specs.Pass.{Layout}
use Rattle.btf_rewrite_model.proofs.Granted.{kind_made, vlen_small}
use Rattle.btf_rewrite_model.specs.Ksyms.{is_func}
use Rattle.btf_rewrite_model.specs.declared.ksyms_ids.KsymsIds.{KsymsIds}
use Rattle.btf_records.specs.BtfType.{record_of, type_kind}
use Rattle.btf_records.specs.declared.btf_type.BtfType.{BtfType}
use Rattle.btf_records.specs.declared.btf_type.BtfType.TheVariants.{DataSec as DataSecType}
use Rattle.btf_plain.specs.Items.{code_entry_words}
use Rattle.btf_plain.specs.declared.items.DataSecEntry.{DataSecEntry}
use Rattle.btf_table.specs.KsymsStep.{model_entry}
use Rattle.btf_table.proofs.KsymsEntries.{at, zero_entry, entries_of_words}
use Rattle.btf_object_model.specs.Finalized.{known_section_size, entry_offset, entry_at_offset, AreInOrder, is_completed, completed_size, IsFinal, has_functions, has_data_sec_kind, with_ksyms_size}
use Rattle.btf_object.specs.Finalize.{completed_parts, final_parts, data_sec_size}

-- the entries before a place, and the entry at it
pub entries_up_to : (es : List DataSecEntry) (i : ℕ) → i < length es → map model_entry (take (i + 1) es) ≡ map model_entry (take i es) ++ model_entry (at es i) ∷ []
entries_up_to es i lt = ap (map model_entry) (take_more es i zero_entry lt) ∙ map-append model_entry (take i es) (at es i ∷ [])

-- all entries
pub all_entries : (tail : List ℕ) (es : List DataSecEntry) → tail ≡ flat_map code_entry_words es → section_entries tail ≡ map model_entry es
all_entries tail es words = ap section_entries words ∙ entries_of_words es

module _ (layout : Layout) (t : Table) where
  -- the offset of an entry is known
  abbrev knows : Entry → Bool
  knows e = is_some (entry_offset layout t e)

  -- The entries before a place have known offsets, and these are the entries at their offsets.
  pub record ArePlaced (es : List DataSecEntry) (i : ℕ) (made : List DataSecEntry) : Type 0 where
    pub known : list_all (λ e. is_some (entry_offset layout t e)) (map model_entry (take i es)) ≡ true
    pub placed_are : map model_entry made ≡ map (entry_at_offset layout t) (map model_entry (take i es))
    pub count : length made ≡ i

  pub none_placed : (es : List DataSecEntry) → ArePlaced es 0 []
  none_placed es = record { known = refl; placed_are = refl; count = refl }

  pub one_placed : (es made new : List DataSecEntry) (i offset : ℕ) → i < length es → ArePlaced es i made → entry_offset layout t (model_entry (at es i)) ≡ Some offset
      → new ≡ made ++ record { btf_type = (at es i).btf_type; offset = offset; size = (at es i).size } ∷ [] → ArePlaced es (i + 1) new
  one_placed es made new i offset lt p at_offset is =
      let x : DataSecEntry = record { btf_type = (at es i).btf_type; offset = offset; size = (at es i).size } in
      let before : List Entry = map model_entry (take i es) in
      let here : knows (model_entry (at es i)) ≡ true = ap (λ (o : Option ℕ). is_some o) at_offset in
      let one : entry_at_offset layout t (model_entry (at es i)) ≡ model_entry x = ap (λ (o : Option ℕ). record (model_entry (at es i)) { offset = unwrap_or o (at es i).offset }) at_offset in
      record {
        known = ap (list_all knows) (entries_up_to es i lt) ∙ list_all-append knows before (model_entry (at es i) ∷ [])
            ∙ ap (λ (b : Bool). b && list_all knows (model_entry (at es i) ∷ [])) p.known ∙ ap (λ (b : Bool). b && true) here;
        placed_are = ap (map model_entry) is ∙ map-append model_entry made (x ∷ []) ∙ ap (λ (xs : List Entry). xs ++ model_entry x ∷ []) p.placed_are
            ∙ ap (λ (y : Entry). map (entry_at_offset layout t) before ++ y ∷ []) (sym one)
            ∙ sym (ap (map (entry_at_offset layout t)) (entries_up_to es i lt) ∙ map-append (entry_at_offset layout t) before (model_entry (at es i) ∷ []));
        count = omega (arith, ap length is, length-append made (x ∷ []), p.count);
      }

  -- all entries have known offsets
  pub all_placed : (tail : List ℕ) (es made : List DataSecEntry) (i : ℕ) → tail ≡ flat_map code_entry_words es → length es ≤ i → ArePlaced es i made
      → Some (map model_entry made) ≡ (if list_all (λ e. is_some (entry_offset layout t e)) (section_entries tail) then Some (map (entry_at_offset layout t) (section_entries tail)) else None)
  all_placed tail es made i words end p =
      let all : map model_entry (take i es) ≡ section_entries tail = ap (map model_entry) (take_all i es end) ∙ sym (all_entries tail es words) in
      let known : list_all knows (section_entries tail) ≡ true = ap (list_all knows) (sym all) ∙ p.known in
      ap (λ (xs : List Entry). Some xs) (p.placed_are ∙ ap (map (entry_at_offset layout t)) all)
      ∙ sym (ap (λ (b : Bool). if b then Some (map (entry_at_offset layout t) (section_entries tail)) else None) known)

  -- the offset of one entry is not known
  pub not_placed : (tail : List ℕ) (es : List DataSecEntry) (i : ℕ) → tail ≡ flat_map code_entry_words es → i < length es → entry_offset layout t (model_entry (at es i)) ≡ None
      → None ≡ (if list_all (λ e. is_some (entry_offset layout t e)) (section_entries tail) then Some (map (entry_at_offset layout t) (section_entries tail)) else None)
  not_placed tail es i words lt none =
      let unknown_one : knows (model_entry (at es i)) ≡ false = ap (λ (o : Option ℕ). is_some o) none in
      let not_all : list_all knows (section_entries tail) ≡ false =
      ap (list_all knows) (all_entries tail es words) ∙ list_all-map knows model_entry es ∙ list_all_at (λ e. knows (model_entry e)) es i zero_entry lt unknown_one in
      sym (ap (λ (b : Bool). if b then Some (map (entry_at_offset layout t) (section_entries tail)) else None) not_all)

  -- ---- the size and the entries

  abbrev texted : Record → Option ℕ
  texted r = known_section_size layout (text_at t.strings r.name)

  abbrev all_known : Record → Bool
  all_known r = list_all knows (section_entries r.tail)

  -- a DATASEC that has a size is not completed
  pub has_size : (r : Record) → (r.third == 0) ≡ false → completed_parts layout t r ≡ None
  has_size r is = ap (λ (b : Bool). if b && is_some (texted r) && all_known r then Some (unwrap_or (texted r) 0, map (entry_at_offset layout t) (section_entries r.tail)) else None) is

  -- nor is one whose section is not known
  pub no_section : (r : Record) → (r.third == 0) ≡ true → texted r ≡ None → completed_parts layout t r ≡ None
  no_section r zero none =
      ap (λ (b : Bool). if b && is_some (texted r) && all_known r then Some (unwrap_or (texted r) 0, map (entry_at_offset layout t) (section_entries r.tail)) else None) zero
      ∙ ap (λ (o : Option ℕ). if is_some o && all_known r then Some (unwrap_or o 0, map (entry_at_offset layout t) (section_entries r.tail)) else None) none

  -- if the size of the section is known, the entries decide
  pub by_entries : (r : Record) (size : ℕ) (es : Option (List Entry)) → (r.third == 0) ≡ true → texted r ≡ Some size → es ≡ (if list_all (λ e. is_some (entry_offset layout t e)) (section_entries r.tail) then Some (map (entry_at_offset layout t) (section_entries r.tail)) else None)
      → completed_parts layout t r ≡ option_map (λ (xs : List Entry). (size, xs)) es
  by_entries r size es zero some is =
      let both : List Entry → ℕ × List Entry = λ xs. (size, xs) in
      let made : List Entry = map (entry_at_offset layout t) (section_entries r.tail) in
      let Parts : Option ℕ → ℕ × List Entry = λ o. (unwrap_or o 0, made) in
      let decided : (b : Bool) → (if b then Some (both made) else None) ≡ option_map both (if b then Some made else None) =
      λ b. elim b as (λ (b : Bool). (if b then Some (both made) else None) ≡ option_map both (if b then Some made else None)) [ true ↦ refl | false ↦ refl ] in
      ap (λ (b : Bool). if b && is_some (texted r) && all_known r then Some (Parts (texted r)) else None) zero
      ∙ ap (λ (o : Option ℕ). if is_some o && all_known r then Some (Parts o) else None) some
      ∙ decided (all_known r) ∙ ap (λ (o : Option (List Entry)). option_map both o) (sym is)

  -- completed
  pub completed_is : (r : Record) (parts : ℕ × List Entry) → completed_parts layout t r ≡ Some parts → final_parts layout t r ≡ parts
  completed_is r parts is =
      let made : ℕ × List Entry = (unwrap_or (texted r) 0, map (entry_at_offset layout t) (section_entries r.tail)) in
      elim (is_completed layout t r) as (λ (b : Bool). (if b then Some made else None) ≡ Some parts → ◌≡◌ {A = ℕ × List Entry} (if b then made.0 else r.third, if b then made.1 else section_entries r.tail) parts)
      [ true ↦ λ some. same_Some made parts some | false ↦ λ none. absurd (none-some parts none) ] is

  -- not completed
  pub uncompleted_is : (r : Record) → completed_parts layout t r ≡ None → final_parts layout t r ≡ (r.third, section_entries r.tail)
  uncompleted_is r is =
      let made : ℕ × List Entry = (unwrap_or (texted r) 0, map (entry_at_offset layout t) (section_entries r.tail)) in
      let own : ℕ × List Entry = (r.third, section_entries r.tail) in
      elim (is_completed layout t r) as (λ (b : Bool). (if b then Some made else None) ≡ None → ◌≡◌ {A = ℕ × List Entry} (if b then made.0 else r.third, if b then made.1 else section_entries r.tail) own)
      [ true ↦ λ some. absurd (none-some made (sym some)) | false ↦ λ none. refl ] is

-- the own size and entries of a DATASEC that is not completed
pub own_parts : (layout : Layout) (t : Table) (r : Record) (size : ℕ) (es copies : List DataSecEntry) → completed_parts layout t r ≡ None → size ≡ r.third → r.tail ≡ flat_map code_entry_words es → copies ≡ es
    → ◌≡◌ {A = ℕ × List Entry} (size, map model_entry copies) (final_parts layout t r)
own_parts layout t r size es copies none size_is words copies_are =
    let Own : ℕ → List Entry → ℕ × List Entry = λ n xs. (n, xs) in
    ap (λ (n : ℕ). Own n (map model_entry copies)) size_is ∙ ap (λ (xs : List DataSecEntry). Own r.third (map model_entry xs)) copies_are
    ∙ ap (Own r.third) (sym (all_entries r.tail es words)) ∙ sym (uncompleted_is layout t r none)

-- a value that is not there
pub none_there : {X : Type 0} (o : Option X) → ((x : X) → o ≡ Some x → ⊥) → o ≡ None
none_there None not = refl
none_there (Some x) not = absurd (not x refl)

-- the length of the words
pub entries_len : (es : List DataSecEntry) → length (flat_map code_entry_words es) ≡ 3 * length es
entries_len [] = refl
entries_len (e ∷ es) = let rest : length (flat_map code_entry_words es) ≡ 3 * length es = entries_len es in omega (arith, rest, length-append (code_entry_words e) (flat_map code_entry_words es))

-- ---- sorted entries

pub filter-map : {X Y : Type 0} (p : Y → Bool) (f : X → Y) (xs : List X) → filter p (map f xs) ≡ map f (filter (λ x. p (f x)) xs)
filter-map p f [] = refl
filter-map {X} p f (x ∷ xs) =
    elim (p (f x)) as (λ (b : Bool). cond b (f x ∷ filter p (map f xs)) (filter p (map f xs)) ≡ map f (cond b (x ∷ filter (λ x. p (f x)) xs) (filter (λ x. p (f x)) xs))) [
      | true ↦ ap (λ ys. f x ∷ ys) (filter-map p f xs)
      | false ↦ filter-map p f xs
    ]

pub entry_words_same : (es : List DataSecEntry) → flat_map code_entry_words es ≡ flat_map made.entry_words (map model_entry es)
entry_words_same [] = refl
entry_words_same (e ∷ es) = ap (λ (ws : List ℕ). code_entry_words e ++ ws) (entry_words_same es)

in_order : (es sorted : List DataSecEntry) → IsSortedByKey (λ (e : DataSecEntry). e.offset) nat_cmp sorted → IsStableByKey (λ (e : DataSecEntry). e.offset) nat_cmp es sorted → AreInOrder (map model_entry es) (map model_entry sorted)
in_order es sorted rising stable =
    let len : length (map model_entry sorted) ≡ length sorted = length-map sorted model_entry in
    record {
      rising = λ k d low high.
          let there : k + 1 < length sorted = omega (arith, high, len) in
          let next : get_or (map model_entry sorted) (k + 1) d ≡ model_entry (get_or sorted (k + 1) zero_entry) = get_or-map model_entry sorted (k + 1) zero_entry d there in
          let this : get_or (map model_entry sorted) k d ≡ model_entry (get_or sorted k zero_entry) = get_or-map model_entry sorted k zero_entry d (omega (arith, there)) in
          (λ i. is_lt (nat_cmp (next i).offset (this i).offset)) ∙ rising k zero_entry low there;
      stable = λ x.
          let p : Entry → Bool = ties (λ (a b : Entry). is_lt (nat_cmp a.offset b.offset)) x in
          let here : DataSecEntry = record { btf_type = x.type; offset = x.offset; size = x.size } in
          filter-map p model_entry sorted ∙ ap (map model_entry) (stable here) ∙ sym (filter-map p model_entry es);
    }

-- the DATASEC of sorted entries is the final one
pub final_is : (layout : Layout) (t : Table) (r new : Record) (size count : ℕ) (es sorted : List DataSecEntry) → (size, map model_entry es) ≡ final_parts layout t r → count ≡ vlen r.info → IsSortedByKey (λ (e : DataSecEntry). e.offset) nat_cmp sorted
    → IsStableByKey (λ (e : DataSecEntry). e.offset) nat_cmp es sorted → new ≡ record { name = r.name; info = 15 * 2 ^ 24 + count; third = size; tail = flat_map code_entry_words sorted }
    → IsFinal layout t (Some kinds.DataSec) r new × (kind_of new.info ≡ Some kinds.DataSec)
final_is layout t r new size count es sorted parts count_is rising stable is =
    let words : flat_map code_entry_words sorted ≡ flat_map made.entry_words (map model_entry sorted) = entry_words_same sorted in
    let made_is : new ≡ made_data_sec r.name (completed_size layout t r) (vlen r.info) (map model_entry sorted) =
    is ∙ ap (λ (n : ℕ). record { name = r.name; info = 15 * 2 ^ 24 + n; third = size; tail = flat_map code_entry_words sorted }) count_is
    ∙ ap (λ (n : ℕ). record { name = r.name; info = 15 * 2 ^ 24 + vlen r.info; third = n; tail = flat_map code_entry_words sorted }) (ap (λ (p : ℕ × List Entry). p.0) parts)
    ∙ ap (λ (ws : List ℕ). record { name = r.name; info = 15 * 2 ^ 24 + vlen r.info; third = completed_size layout t r; tail = ws }) words in (
      (
        map model_entry sorted,
        subst (λ (xs : List Entry). AreInOrder xs (map model_entry sorted)) (ap (λ (p : ℕ × List Entry). p.1) parts) (in_order es sorted rising stable),
        made_is,
      ),
      ap (λ (x : Record). kind_of x.info) made_is ∙ kind_made 15 (vlen r.info) kinds.DataSec (omega arith) (vlen_small r.info) refl,
    )

-- ---- functions of `.ksyms`

list_any-map : {X Y : Type 0} (p : Y → Bool) (f : X → Y) (xs : List X) → list_any (λ x. p (f x)) xs ≡ list_any p (map f xs)
list_any-map p f [] = refl
list_any-map p f (x ∷ xs) = ap (λ (b : Bool). p (f x) || b) (list_any-map p f xs)

-- a function is among the entries of the DATASEC
pub functions_are : (t : Table) (ids : KsymsIds) (b : BtfType) (r : Record) (es : List DataSecEntry) → b ≡ DataSecType r → slice_get t.records ids.datasec_id ≡ Some (record_of b) → r.tail ≡ flat_map code_entry_words es
    → list_any (λ (e : DataSecEntry). is_func (kind_at t e.btf_type)) es ≡ has_functions t (Some ids)
functions_are t ids b r es is here words =
    let record_is : record_at t ids.datasec_id ≡ r = ap (λ (o : Option Record). unwrap_or o unknown) here ∙ ap record_of is in
    list_any-map (λ (e : Entry). is_func (kind_at t e.type)) model_entry es
    ∙ ap (list_any (λ (e : Entry). is_func (kind_at t e.type))) (sym (ap (λ (x : Record). section_entries x.tail) record_is ∙ all_entries r.tail es words))

-- the recorded size of `.ksyms`
pub ksyms_sizes : (t : Table) (ids : KsymsIds) (b : BtfType) (r : Record) (es : List DataSecEntry) (sizes : List (Option ℕ)) → b ≡ DataSecType r → slice_get t.records ids.datasec_id ≡ Some (record_of b) → kind_of (record_of b).info ≡ Some (type_kind b)
    → r.tail ≡ flat_map code_entry_words es → sizes ≡ map data_sec_size t.records → set sizes ids.datasec_id (Some (4 * length es)) ≡ map data_sec_size (with_ksyms_size t (Some ids)).records
ksyms_sizes t ids b r es sizes is here kind words are =
    let id : ℕ = ids.datasec_id in
    let record_is : record_at t id ≡ record_of b = ap (λ (o : Option Record). unwrap_or o unknown) here in
    let kind_is : kind_of (record_at t id).info ≡ Some kinds.DataSec = ap (λ (x : Record). kind_of x.info) record_is ∙ kind ∙ ap (λ (x : BtfType). Some (type_kind x)) is in
    let new : Record = record (record_at t id) { third = 4 * length (section_entries (record_at t id).tail) } in
    let entries_are : section_entries (record_at t id).tail ≡ map model_entry es = ap (λ (x : Record). section_entries x.tail) (record_is ∙ ap record_of is) ∙ all_entries r.tail es words in
    let count : length (section_entries (record_at t id).tail) ≡ length es = ap (λ (xs : List Entry). length xs) entries_are ∙ length-map es model_entry in
    let size_is : data_sec_size new ≡ Some (4 * length es) =
    ap (λ (k : Option Kind). if has_data_sec_kind k then Some (4 * length (section_entries (record_at t id).tail)) else None) kind_is ∙ ap (λ (n : ℕ). Some (4 * n)) count in
    ap (λ (ss : List (Option ℕ)). set ss id (Some (4 * length es))) are ∙ ap (set (map data_sec_size t.records) id) (sym size_is) ∙ sym (map-set data_sec_size t.records id new)
