-- What the step of `.ksyms` changes each id to, and all ids.
use Rattle.std.proofs.Common.{◌≡◌, ℕ, ◌+◌, ◌*◌, ◌<◌, ◌≤◌, Bool, true, false, List, [], ◌∷◌, ◌++◌, length, get_or, take, drop, suc, map, Option, None, Some, refl, sym, ap, subst, ◌∙◌, arith}
use Rattle.std.specs.Prelude.{if◌then◌else◌, ◌==◌, nat_le, slice_get}
use Rattle.std.specs.Option.{unwrap_or}
use Rattle.std.specs.List.{flat_map, range_with_len, sum_by}
use Rattle.std.specs.Option.{option_map}
use Rattle.std.proofs.lemmas.List.{map-append, append-nil, append_assoc, drop-append-le, length-append, length-map, length-take, take-map, take_all, drop-map}
use Rattle.std.proofs.lemmas.List.FromFn.{map-range_with_len_more}
use Rattle.std.proofs.lemmas.Option.{slice_get-map, slice_get_read, slice_get-get_or, slice_get_within, same_Some, none-some}
use Rattle.std.proofs.Math.Seq.{take-suc}
use Rattle.std.proofs.lemmas.List.Concat.{flat_map-append}
use Rattle.std.proofs.lemmas.List.Sums.{sum_by-cons}
use Rattle.std.proofs.lemmas.Bool.{eq-eqb, leb-true, false≢true}
use Rattle.btf_model.specs.Refusal.{Refusal}
use Rattle.btf_rewrite_model.specs.Checks.{Check, first_fault, has_room, fits, record_len}
use Rattle.btf_rewrite_model.proofs.Granted.{passed_head, passed_tail, passed_left}
use Rattle.btf_model.specs.Record as kinds
use Rattle.btf_model.specs.Record.{Kind, Record, unknown, kind_of}
use Rattle.btf_model.specs.declared.endianness.Endianness.{Endianness}
use Rattle.btf_model.specs.Spelling.{spell}
use Rattle.btf_model.specs.Table.{Table, type_bytes, section_limit, with_string, with_type}
use Rattle.btf_model.specs.Fields.{HaveKinds}
use Rattle.btf_model.proofs.Records.{length-spell}
use Rattle.btf_table.specs.Denied.{AllHaveKinds}
use Rattle.btf_table.proofs.KnownKinds.{one_more_kind}
use Rattle.btf_rewrite_model.specs.Made as model
use Rattle.btf_rewrite_model.specs.Made.{Entry, section_entries, record_at, c_int}
use Rattle.btf_rewrite_model.specs.Ksyms.{stepped, ksyms_entries, laid_out, appends_int, each_stepped, ksyms_table, ksyms_fault, int_text, placeholder_checks, data_sec_checks}
use Rattle.btf_rewrite_model.specs.declared.ksyms_ids.KsymsIds.{KsymsIds}
use Rattle.btf_records.specs.BtfType.{record_of, fallback_of}
use Rattle.btf_records.specs.declared.btf_type.BtfType.{BtfType}
use Rattle.btf_table.specs.declared.table.changes.Changes.{Changes}
use Rattle.btf_table.specs.Changes.{put_all, each, AreInside, AreChangesOf, changed}
use Rattle.btf_table.specs.KsymsStep.{step_record, laid_out_anew, kind_and_len, IsLike, AreStepped}
use Rattle.btf_table.proofs.Put.{length-put, put_kept, put_new, inside_more, inside_next}

-- the symbols are the entries of the DATASEC
symbols_are : (t : Table) (ids : KsymsIds) (id : ℕ) (r : Record) → slice_get t.records id ≡ Some r → id ≡ ids.datasec_id → ksyms_entries t ids ≡ section_entries r.tail
symbols_are t ids id r at same =
    ap (λ (n : ℕ). section_entries (record_at t n).tail) (sym same) ∙ ap (λ (o : Option Record). section_entries (unwrap_or o unknown).tail) at

-- the DATASEC of the symbols is laid out
pub section_becomes : (t : Table) (ids : KsymsIds) (id : ℕ) (r : Record) → kind_of r.info ≡ Some kinds.DataSec → slice_get t.records id ≡ Some r → id ≡ ids.datasec_id → step_record t ids id r ≡ laid_out_anew t ids.placeholder_id r
section_becomes t ids id r kind at same =
    let made : List Entry → Record = λ es. record r { third = 4 * length es; tail = flat_map model.entry_words (laid_out t ids.placeholder_id 0 es) } in
    let here : (id == ids.datasec_id) ≡ true = eq-eqb id ids.datasec_id same in
    ap (λ (k : Option Kind). stepped t ids id k r) kind ∙ ap (λ (b : Bool). if b then made (ksyms_entries t ids) else r) here ∙ ap made (symbols_are t ids id r at same)

-- ---- all ids

-- a list up to one more place, by the list of types that it is mapped from
take_next : {X : Type 0} (f : BtfType → X) (ts : List BtfType) (xs : List X) (i : ℕ) (t : BtfType) → map f ts ≡ xs → i < length ts → t ≡ get_or ts i t → take (i + 1) xs ≡ take i xs ++ f t ∷ []
take_next f ts xs i t is lt at =
    let more : i + 1 ≡ suc i = omega arith in
    ap (take (i + 1)) (sym is) ∙ take-map f (i + 1) ts ∙ ap (λ (n : ℕ). map f (take n ts)) more ∙ ap (map f) (take-suc ts i t lt) ∙ ap (λ u. map f (take i ts ++ u ∷ [])) (sym at)
    ∙ map-append f (take i ts) (t ∷ []) ∙ ap (λ ys. ys ++ f t ∷ []) (sym (take-map f i ts) ∙ ap (take i) is)

module _ (t : Table) (ids : KsymsIds) (ts : List BtfType) (records : map record_of ts ≡ t.records) (fallbacks : map fallback_of ts ≡ t.fallbacks) where
  -- the type of an id
  pub record_there : (i : ℕ) (b : BtfType) → i < length ts → b ≡ get_or ts i b → slice_get t.records i ≡ Some (record_of b)
  record_there i b lt at = ap (λ rs. slice_get rs i) (sym records) ∙ slice_get-map record_of ts i ∙ ap (option_map record_of) (slice_get_read ts (length ts) i b refl lt at)

  stepped_there : (i : ℕ) (b : BtfType) → i < length ts → b ≡ get_or ts i b
      → map (λ id. step_record t ids id (record_at t id)) (range_with_len 0 (i + 1)) ≡ map (λ id. step_record t ids id (record_at t id)) (range_with_len 0 i) ++ step_record t ids i (record_of b) ∷ []
  stepped_there i b lt at =
      let here : record_at t i ≡ record_of b = ap (λ (o : Option Record). unwrap_or o unknown) (record_there i b lt at) in
      map-range_with_len_more (λ id. step_record t ids id (record_at t id)) 0 i i (omega arith) ∙ ap (λ r. map (λ id. step_record t ids id (record_at t id)) (range_with_len 0 i) ++ step_record t ids i r ∷ []) here

  many : (i : ℕ) → i < length ts → length (take i t.records) ≡ i
  many i lt = omega (arith, length-take i t.records, ap length (sym records), length-map ts record_of, lt)

  many_fallbacks : (i : ℕ) → i < length ts → length (take i t.fallbacks) ≡ i
  many_fallbacks i lt = omega (arith, length-take i t.fallbacks, ap length (sym fallbacks), length-map ts fallback_of, lt)

  inside_of : {X : Type 0} (i : ℕ) (xs : List X) (cs : List (ℕ × BtfType)) → length xs ≡ i → AreInside i cs → AreInside (length xs) cs
  inside_of i xs cs is inside = subst (λ (n : ℕ). AreInside n cs) (sym is) inside

  -- one more type is unchanged
  pub kept_next : (i : ℕ) (cs : List (ℕ × BtfType)) (b : BtfType) → i < length ts → b ≡ get_or ts i b → AreStepped t ids i cs → record_of b ≡ step_record t ids i (record_of b) → AreStepped t ids (i + 1) cs
  kept_next i cs b lt at before stays =
      let rs : List Record = put_all (each record_of cs) (take i t.records) in
      let put : put_all (each record_of cs) (take (i + 1) t.records) ≡ rs ++ record_of b ∷ [] =
      ap (put_all (each record_of cs)) (take_next record_of ts t.records i b records lt at) ∙ put_kept record_of cs (take i t.records) (record_of b) (inside_of i (take i t.records) cs (many i lt) before.inside) in
      record {
        inside = inside_more i (i + 1) cs (omega arith) before.inside;
        records = put ∙ ap (λ xs. xs ++ record_of b ∷ []) before.records ∙ ap (λ r. map (λ id. step_record t ids id (record_at t id)) (range_with_len 0 i) ++ r ∷ []) stays ∙ sym (stepped_there i b lt at);
        fallbacks =
            ap (put_all (each fallback_of cs)) (take_next fallback_of ts t.fallbacks i b fallbacks lt at)
            ∙ put_kept fallback_of cs (take i t.fallbacks) (fallback_of b) (inside_of i (take i t.fallbacks) cs (many_fallbacks i lt) before.inside)
            ∙ ap (λ xs. xs ++ fallback_of b ∷ []) before.fallbacks ∙ sym (take_next fallback_of ts t.fallbacks i b fallbacks lt at);
        shapes = ap (map kind_and_len) put ∙ map-append kind_and_len rs (record_of b ∷ []) ∙ ap (λ xs. xs ++ kind_and_len (record_of b) ∷ []) before.shapes ∙ sym (map-append kind_and_len (take i t.records) (record_of b ∷ []))
            ∙ ap (map kind_and_len) (sym (take_next record_of ts t.records i b records lt at));
      }

  -- one more type is changed
  pub changed_next : (i : ℕ) (cs : List (ℕ × BtfType)) (b new : BtfType) → 0 < i → i < length ts → b ≡ get_or ts i b → AreStepped t ids i cs → record_of new ≡ step_record t ids i (record_of b) → IsLike b new
      → AreStepped t ids (i + 1) (cs ++ (i, new) ∷ [])
  changed_next i cs b new low lt at before is like =
      let ds : List (ℕ × BtfType) = cs ++ (i, new) ∷ [] in
      let rs : List Record = put_all (each record_of cs) (take i t.records) in
      let put : put_all (each record_of ds) (take (i + 1) t.records) ≡ rs ++ record_of new ∷ [] =
      ap (put_all (each record_of ds)) (take_next record_of ts t.records i b records lt at)
      ∙ put_new record_of cs (take i t.records) (record_of b) i new (inside_of i (take i t.records) cs (many i lt) before.inside) (many i lt) in
      record {
        inside = inside_next (i + 1) cs i new (inside_more i (i + 1) cs (omega arith) before.inside) low (omega arith);
        records = put ∙ ap (λ xs. xs ++ record_of new ∷ []) before.records ∙ ap (λ r. map (λ id. step_record t ids id (record_at t id)) (range_with_len 0 i) ++ r ∷ []) is ∙ sym (stepped_there i b lt at);
        fallbacks =
            ap (put_all (each fallback_of ds)) (take_next fallback_of ts t.fallbacks i b fallbacks lt at)
            ∙ put_new fallback_of cs (take i t.fallbacks) (fallback_of b) i new (inside_of i (take i t.fallbacks) cs (many_fallbacks i lt) before.inside) (many_fallbacks i lt)
            ∙ ap (λ xs. xs ++ fallback_of new ∷ []) before.fallbacks ∙ ap (λ f. take i t.fallbacks ++ f ∷ []) like.fallback ∙ sym (take_next fallback_of ts t.fallbacks i b fallbacks lt at);
        shapes = ap (map kind_and_len) put ∙ map-append kind_and_len rs (record_of new ∷ []) ∙ ap (λ xs. xs ++ kind_and_len (record_of new) ∷ []) before.shapes
            ∙ ap (λ s. map kind_and_len (take i t.records) ++ s ∷ []) (ap (λ k. (k, length (record_of new).tail)) like.kind ∙ ap (λ n. (kind_of (record_of b).info, n)) like.length)
            ∙ sym (map-append kind_and_len (take i t.records) (record_of b ∷ [])) ∙ ap (map kind_and_len) (sym (take_next record_of ts t.records i b records lt at));
      }

-- id 0 is Unknown, which does not change
pub stepped_first : (t : Table) (ids : KsymsIds) (rs : List Record) → t.records ≡ unknown ∷ rs → AreStepped t ids 1 []
stepped_first t ids rs first = record {
  inside = tt;
  records = ap (take 1) first ∙ ap (λ (xs : List Record). step_record t ids 0 (unwrap_or (slice_get xs 0) unknown) ∷ []) (sym first);
  fallbacks = refl;
  shapes = refl;
}

-- the step has completed all ids
pub stepped_all : (t : Table) (ids : KsymsIds) (ts : List BtfType) (i : ℕ) (cs : List (ℕ × BtfType)) → map record_of ts ≡ t.records → length ts ≤ i → i ≤ length ts → AreStepped t ids i cs → AreStepped t ids (length t.records) cs
stepped_all t ids ts i cs records low high stepped =
    let end : i ≡ length t.records = omega (arith, low, high, ap length (sym records), length-map ts record_of) in
    subst (λ (n : ℕ). AreStepped t ids n cs) end stepped

-- ---- the table after the step

abbrev sizes : List (Option Kind × ℕ) → ℕ
sizes shapes = sum_by (λ (s : Option Kind × ℕ). 12 + 4 * s.1) shapes

spelled_len : (order : Endianness) (rs : List Record) → length (flat_map (spell order) rs) ≡ sizes (map kind_and_len rs)
spelled_len order [] = refl
spelled_len order (r ∷ rs) =
    let here : sizes (map kind_and_len (r ∷ rs)) ≡ 12 + 4 * length r.tail + sizes (map kind_and_len rs) = sum_by-cons (λ (s : Option Kind × ℕ). 12 + 4 * s.1) (kind_and_len r) (map kind_and_len rs) in
    omega (arith, here, length-append (spell order r) (flat_map (spell order) rs), length-spell order r, spelled_len order rs)

-- records of the same shapes have the same length
same_len : (order : Endianness) (rs qs : List Record) → map kind_and_len rs ≡ map kind_and_len qs → length (flat_map (spell order) (drop 1 rs)) ≡ length (flat_map (spell order) (drop 1 qs))
same_len order rs qs same = spelled_len order (drop 1 rs) ∙ ap sizes (sym (drop-map kind_and_len 1 rs) ∙ ap (drop 1) same ∙ drop-map kind_and_len 1 qs) ∙ sym (spelled_len order (drop 1 qs))

-- and have kinds
kinds_of_shapes : (rs qs : List Record) → map kind_and_len rs ≡ map kind_and_len qs → AllHaveKinds qs → AllHaveKinds rs
kinds_of_shapes rs qs same kinds id r at =
    let long : id < length qs = omega (arith, slice_get_within rs id r at, ap length same, length-map rs kind_and_len, length-map qs kind_and_len) in
    let q : Record = get_or qs id unknown in
    let there : slice_get qs id ≡ Some q = slice_get-get_or qs id unknown long in
    let found : Some (kind_and_len r) ≡ Some (kind_and_len q) = ap (option_map kind_and_len) (sym at) ∙ sym (slice_get-map kind_and_len rs id) ∙ ap (λ xs. slice_get xs id) same ∙ slice_get-map kind_and_len qs id ∙ ap (option_map kind_and_len) there in
    let k : (k : Kind) × (kind_of q.info ≡ Some k) = kinds id q there in
    (k.0, ap (λ (s : Option Kind × ℕ). s.0) (same_Some (kind_and_len r) (kind_and_len q) found) ∙ k.1)

module _ (t : Table) (ids : KsymsIds) (c : Changes) (stepped : AreStepped t ids (length t.records) c.types.items) (records_len : length t.fallbacks ≡ length t.records) (have : HaveKinds t)
    (strings_limit : length t.strings ≤ section_limit) (types_limit : length (type_bytes t) ≤ section_limit) where
  abbrev rs : List Record
  rs = put_all (each record_of c.types.items) t.records

  all_records : take (length t.records) t.records ≡ t.records
  all_records = take_all (length t.records) t.records (omega arith)

  records_are : rs ≡ (each_stepped t ids).records
  records_are = ap (put_all (each record_of c.types.items)) (sym all_records) ∙ stepped.records

  fallbacks_are : put_all (each fallback_of c.types.items) t.fallbacks ≡ t.fallbacks
  fallbacks_are =
      let all : take (length t.records) t.fallbacks ≡ t.fallbacks = take_all (length t.records) t.fallbacks (omega (arith, records_len)) in
      ap (put_all (each fallback_of c.types.items)) (sym all) ∙ stepped.fallbacks ∙ all

  shapes_are : map kind_and_len rs ≡ map kind_and_len t.records
  shapes_are = ap (λ xs. map kind_and_len (put_all (each record_of c.types.items) xs)) (sym all_records) ∙ stepped.shapes ∙ ap (map kind_and_len) all_records

  rs_kinds : AllHaveKinds rs
  rs_kinds = kinds_of_shapes rs t.records shapes_are have

  -- without the INT
  pub stays_as_stepped : appends_int t ids.placeholder_id ≡ false → c.new_strings.items ≡ [] → c.new_types.items ≡ [] → c.type_len ≡ length (type_bytes t) → AreChangesOf t c × (changed t c ≡ ksyms_table t ids)
  stays_as_stepped none strings types len =
      let is_rs : rs ++ map record_of c.new_types.items ≡ rs = ap (λ xs. rs ++ map record_of xs) types ∙ append-nil rs in
      let table : changed t c ≡ each_stepped t ids =
      ap (λ xs. record (changed t c) { strings = xs }) (ap (λ xs. t.strings ++ xs) strings ∙ append-nil t.strings) ∙ ap (λ xs. record (changed t c) { strings = t.strings; records = xs }) (is_rs ∙ records_are)
      ∙ ap (λ xs. record (each_stepped t ids) { fallbacks = xs }) (ap (λ xs. put_all (each fallback_of c.types.items) t.fallbacks ++ map fallback_of xs) types ∙ append-nil (put_all (each fallback_of c.types.items) t.fallbacks) ∙ fallbacks_are) in (
        record {
          ids = stepped.inside;
          strings = omega (arith, strings_limit, ap length strings);
          limit = omega (arith, types_limit, len);
          types = len ∙ sym (same_len t.order rs t.records shapes_are) ∙ ap (λ xs. length (flat_map (spell t.order) (drop 1 xs))) (sym is_rs);
          kinds = subst AllHaveKinds (sym is_rs) rs_kinds;
        },
        table ∙ ap (λ (b : Bool). if b then with_type (c_int (length t.strings)) None (with_string int_text (each_stepped t ids)) else each_stepped t ids) (sym none),
      )

  -- with the INT
  pub grows_by_int : (rest : List Record) (int : BtfType) → t.records ≡ unknown ∷ rest → appends_int t ids.placeholder_id ≡ true → c.new_strings.items ≡ int_text ++ 0 ∷ [] → record_of int ≡ c_int (length t.strings) → fallback_of int ≡ None
      → c.new_types.items ≡ int ∷ [] → c.type_len ≡ length (type_bytes t) + 16 → length t.strings + 4 ≤ section_limit → length (type_bytes t) + 16 ≤ section_limit → AreChangesOf t c × (changed t c ≡ ksyms_table t ids)
  grows_by_int rest int first there strings is none types len string_room type_room =
      let new : Record = c_int (length t.strings) in
      let added : map record_of c.new_types.items ≡ new ∷ [] = ap (map record_of) types ∙ ap (λ r. r ∷ []) is in
      let some : 1 ≤ length rs = omega (arith, length-put (each record_of c.types.items) t.records, ap length first) in
      let table : changed t c ≡ with_type new None (with_string int_text (each_stepped t ids)) =
      ap (λ xs. record (changed t c) { strings = xs }) (ap (λ xs. t.strings ++ xs) strings ∙ sym (append_assoc t.strings int_text (0 ∷ [])))
      ∙ ap (λ xs. record (changed t c) { strings = t.strings ++ int_text ++ 0 ∷ []; records = xs }) (ap (λ xs. rs ++ xs) added ∙ ap (λ xs. xs ++ new ∷ []) records_are)
      ∙ ap (λ xs. record (with_type new None (with_string int_text (each_stepped t ids))) { fallbacks = xs })
      (ap (λ xs. put_all (each fallback_of c.types.items) t.fallbacks ++ map fallback_of xs) types ∙ ap (λ f. put_all (each fallback_of c.types.items) t.fallbacks ++ f ∷ []) none ∙ ap (λ xs. xs ++ None ∷ []) fallbacks_are) in
      let long : length (flat_map (spell t.order) (drop 1 (rs ++ new ∷ []))) ≡ length (type_bytes t) + 16 =
      ap (λ xs. length (flat_map (spell t.order) xs)) (drop-append-le 1 rs (new ∷ []) some) ∙ ap length (flat_map-append (spell t.order) (drop 1 rs) (new ∷ []))
      ∙ omega (
        arith,
        length-append (flat_map (spell t.order) (drop 1 rs)) (spell t.order new ++ []),
        same_len t.order rs t.records shapes_are,
        ap length (append-nil (spell t.order new)),
        length-spell t.order new,
      ) in (
        record {
          ids = stepped.inside;
          strings = omega (arith, string_room, ap length strings);
          limit = omega (arith, type_room, len);
          types = len ∙ sym long ∙ ap (λ xs. length (flat_map (spell t.order) (drop 1 (rs ++ xs)))) (sym added);
          kinds = subst (λ xs. AllHaveKinds (rs ++ xs)) (sym added) (one_more_kind rs new kinds.Int rs_kinds refl);
        },
        table ∙ ap (λ (b : Bool). if b then with_type new None (with_string int_text (each_stepped t ids)) else each_stepped t ids) (sym there),
      )

-- ---- whether the INT fits

le_of_room : (a b : ℕ) (refusal : Refusal) → (if nat_le a b then None else Some refusal) ≡ None → a ≤ b
le_of_room a b refusal passed =
    elim (nat_le a b) as (λ (c : Bool). nat_le a b ≡ c → (if c then None else Some refusal) ≡ None → a ≤ b) [ true ↦ λ is _. leb-true a b is | false ↦ λ _ some. absurd (none-some refusal (sym some)) ] refl passed

-- If the tests of the step pass, the INT fits.
pub int_has_room : (t : Table) (ids : KsymsIds) → ksyms_fault t ids ≡ None → appends_int t ids.placeholder_id ≡ true → (length t.strings + 4 ≤ section_limit) × (length (type_bytes t) + 16 ≤ section_limit)
int_has_room t ids passed there = room ids.placeholder_id (passed_left (placeholder_checks t ids.placeholder_id) (data_sec_checks t ids.datasec_id) (passed_left (placeholder_checks t ids.placeholder_id ++ data_sec_checks t ids.datasec_id) _ passed)) there
  where
    room : (placeholder : Option ℕ) → first_fault (placeholder_checks t placeholder) ≡ None → appends_int t placeholder ≡ true → (length t.strings + 4 ≤ section_limit) × (length (type_bytes t) + 16 ≤ section_limit)
    room (Some id) checks is = absurd (false≢true is)
    room None checks is =
        let both : List Check = has_room (length t.strings) int_text ∷ fits (length (type_bytes t)) (record_len (c_int 0)) ∷ [] in
        let inner : first_fault both ≡ None = ap (λ (b : Bool). first_fault (if b then both else [])) (sym is) ∙ checks in
        let string : length t.strings + length int_text + 1 ≤ section_limit = le_of_room (length t.strings + length int_text + 1) section_limit _ (passed_head (has_room (length t.strings) int_text) (fits (length (type_bytes t)) (record_len (c_int 0)) ∷ []) inner) in
        let type : length (type_bytes t) + record_len (c_int 0) ≤ section_limit =
        le_of_room (length (type_bytes t) + record_len (c_int 0)) section_limit _ (passed_head (fits (length (type_bytes t)) (record_len (c_int 0))) [] (passed_tail (has_room (length t.strings) int_text) (fits (length (type_bytes t)) (record_len (c_int 0)) ∷ []) inner)) in
        (omega (arith, string), omega (arith, type))
