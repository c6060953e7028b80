-- A table that is finalized, one id after another, and STRUCTs that get their sizes.
use Rattle.std.proofs.Common.{◌≡◌, ◌≢◌, ℕ, ◌+◌, ◌<◌, ◌≤◌, Bool, true, false, ◌&&◌, List, length, get_or, set, map, Option, None, Some, refl, sym, ap, subst, ◌∙◌, ⊎_elim, arith}
use Rattle.std.specs.Prelude.{slice_get, ◌==◌, if◌then◌else◌}
use Rattle.std.specs.List.{list_all}
use Rattle.std.specs.Option.{unwrap_or, option_map, is_some}
use Rattle.std.proofs.lemmas.Bool.{cases_lt, cases_eq}
use Rattle.std.proofs.lemmas.List.{length-set, length-map, get_or-map, get_or-set_same, get_or-set_other, set-get_or, ext_get_or}
use Rattle.std.proofs.lemmas.List.FromFn.{length-range_with_len, get_or-range_with_len}
use Rattle.std.proofs.lemmas.Option.{get_or_from_slice_get, unwrap_or-slice_get, slice_get-map, same_Some, none-some}
use Rattle.btf_model.specs.Record as kinds
use Rattle.btf_model.specs.Record.{Kind, Record, unknown, kind_of, vlen}
use Rattle.btf_model.specs.Table.{Table, Fallback}
use Rattle.btf_model.specs.Text.{text_at}
use Rattle.btf_rewrite_model.specs.Made.{Entry, section_entries, record_at, kind_at, struct, made_data_sec, table_ids}
use Rattle.btf_rewrite_model.specs.Pass.{Layout}
use Rattle.btf_records.specs.BtfType.{record_of, fallback_of, type_kind}
use Rattle.btf_records.specs.declared.btf_type.BtfType.{BtfType}
use Rattle.btf_table.specs.Btf.{IsType}
use Rattle.btf_records.specs.declared.btf_type.BtfType.TheVariants as BtfTypes
use Rattle.btf_object_model.specs.Finalized.{known_section_size, retains_offset, variable_offset, offset_by, entry_offset, AreInOrder, IsFinal, IsFinalized, has_data_sec_kind, is_struct, sized_record, with_old_sizes}
use Rattle.btf_object.specs.Finalize.{FinalizesAt, ResizesAt, data_sec_size, resized_record}

-- ---- one record is replaced

-- The record of an id is replaced, and nothing else changes.
pub record Replaces (id : ℕ) (r : Record) (old new : Table) : Type 0 where
  pub others : new ≡ record old { records = new.records }
  pub count : length new.records ≡ length old.records
  pub here : record_at new id ≡ r
  pub elsewhere : (k : ℕ) → k ≢ id → record_at new k ≡ record_at old k

pub at_set : (rs : List Record) (id : ℕ) (r : Record) → id < length rs → unwrap_or (slice_get (set rs id r) id) unknown ≡ r
at_set rs id r lt = unwrap_or-slice_get (set rs id r) id unknown ∙ get_or-set_same rs id r unknown lt

pub at_other : (rs : List Record) (id k : ℕ) (r : Record) → k ≢ id → unwrap_or (slice_get (set rs id r) k) unknown ≡ unwrap_or (slice_get rs k) unknown
at_other rs id k r other =
    unwrap_or-slice_get (set rs id r) k unknown ∙ get_or-set_other rs id k r unknown other ∙ sym (unwrap_or-slice_get rs k unknown)

set_same : {X : Type 0} (xs : List X) (id : ℕ) (x : X) → slice_get xs id ≡ Some x → set xs id x ≡ xs
set_same xs id x is = ap (set xs id) (sym (get_or_from_slice_get xs id x x is)) ∙ set-get_or xs id x

pub replaces : (old new : Table) (id : ℕ) (r : Record) (fallback : Option Fallback) → id < length old.records → slice_get old.fallbacks id ≡ Some fallback
    → new ≡ record old { records = set old.records id r; fallbacks = set old.fallbacks id fallback } → Replaces id r old new
replaces old new id r fallback lt at is =
    let records : new.records ≡ set old.records id r = ap (λ (t : Table). t.records) is in
    record {
      others = is ∙ ap (λ (fs : List (Option Fallback)). record old { records = set old.records id r; fallbacks = fs }) (set_same old.fallbacks id fallback at)
          ∙ ap (λ (rs : List Record). record old { records = rs }) (sym records);
      count = ap (λ (rs : List Record). length rs) records ∙ length-set old.records id r;
      here = ap (λ (rs : List Record). unwrap_or (slice_get rs id) unknown) records ∙ at_set old.records id r lt;
      elsewhere = λ k other. ap (λ (rs : List Record). unwrap_or (slice_get rs k) unknown) records ∙ at_other old.records id k r other;
    }

-- ---- finalizing

-- only DATASECs change
pub stays_final : (layout : Layout) (t : Table) (k : Option Kind) (r : Record) → has_data_sec_kind k ≡ false → IsFinal layout t k r r
stays_final layout t k r other =
    elim k as (λ (k : Option Kind). has_data_sec_kind k ≡ false → IsFinal layout t k r r) [ Some kinds.DataSec ↦ λ is. cc | _ ↦ λ is. refl ] other

-- of a table, only the strings are read
offset_read : (layout : Layout) (t u : Table) (k : Option Kind) (r : Record) (old : ℕ) → u.strings ≡ t.strings → offset_by layout u k r old ≡ offset_by layout t k r old
offset_read layout t u k r old strings =
    elim k as (λ (k : Option Kind). offset_by layout u k r old ≡ offset_by layout t k r old) [
      | Some kinds.Var ↦ ap (λ (xs : List ℕ). variable_offset layout (retains_offset r) old (text_at xs r.name)) strings
      | _ ↦ refl
    ]

-- what is read of variables does not change if a DATASEC is finalized
offset_same : (layout : Layout) (t u : Table) (k : Option Kind) (r new : Record) (old : ℕ) → u.strings ≡ t.strings → IsFinal layout t k r new → offset_by layout u k new old ≡ offset_by layout t k r old
offset_same layout t u k r new old strings is =
    elim k as (λ (k : Option Kind). IsFinal layout t k r new → offset_by layout u k new old ≡ offset_by layout t k r old) [
      | Some kinds.Var ↦ λ same. ap (λ (x : Record). variable_offset layout (retains_offset x) old (text_at u.strings x.name)) same
          ∙ ap (λ (xs : List ℕ). variable_offset layout (retains_offset r) old (text_at xs r.name)) strings
      | _ ↦ λ same. refl
    ] is

-- a record becomes the same in two tables whose variables have the same offsets
final_same : (layout : Layout) (t u : Table) (k : Option Kind) (r new : Record) → t.strings ≡ u.strings → ((e : Entry) → entry_offset layout t e ≡ entry_offset layout u e) → IsFinal layout t k r new → IsFinal layout u k r new
final_same layout t u k r new strings offsets is =
    let Completed : List ℕ → (Entry → Option ℕ) → Bool = λ texts at. (r.third == 0) && is_some (known_section_size layout (text_at texts r.name)) && list_all (λ e. is_some (at e)) (section_entries r.tail) in
    let Made : List ℕ → (Entry → Option ℕ) → Type 0 = λ texts at.
    (es : List Entry)
    × AreInOrder (if Completed texts at then map (λ (e : Entry). record e { offset = unwrap_or (at e) e.offset }) (section_entries r.tail) else section_entries r.tail) es
    × (new ≡ made_data_sec r.name (if Completed texts at then unwrap_or (known_section_size layout (text_at texts r.name)) 0 else r.third) (vlen r.info) es) in
    elim k as (λ (k : Option Kind). IsFinal layout t k r new → IsFinal layout u k r new) [
      | Some kinds.DataSec ↦ λ (made : Made t.strings (λ e. entry_offset layout t e)).
          subst (λ (texts : List ℕ). Made texts (λ e. entry_offset layout u e)) strings
          (subst (Made t.strings) (λ i. λ e. offsets e i) made)
      | _ ↦ λ same. same
    ] is

-- The ids below this one are finalized, and the others are not yet.
pub record ArePartlyFinal (layout : Layout) (old now : Table) (id : ℕ) : Type 0 where
  pub others : now ≡ record old { records = now.records }
  pub count : length now.records ≡ length old.records
  pub done : (k : ℕ) → k < id → IsFinal layout old (kind_at old k) (record_at old k) (record_at now k)
  pub rest : (k : ℕ) → id ≤ k → record_at now k ≡ record_at old k
  pub offsets : (e : Entry) → entry_offset layout now e ≡ entry_offset layout old e

pub none_final : (layout : Layout) (t : Table) → ArePartlyFinal layout t t 0
none_final layout t = record {
  others = refl;
  count = refl;
  done = λ k lt. absurd (omega (arith, lt));
  rest = λ k le. refl;
  offsets = λ e. refl;
}

pub one_final : (layout : Layout) (old now new : Table) (id : ℕ) → ArePartlyFinal layout old now id → FinalizesAt layout id now new → ArePartlyFinal layout old new (id + 1)
one_final layout old now new id p f =
    let strings_now : now.strings ≡ old.strings = ap (λ (t : Table). t.strings) p.others in
    let strings_new : new.strings ≡ now.strings = ap (λ (t : Table). t.strings) f.others in
    let same_record : record_at now id ≡ record_at old id = p.rest id (omega arith) in
    let final : IsFinal layout old (kind_at old id) (record_at old id) (record_at new id) =
    subst (λ (r : Record). IsFinal layout old (kind_of r.info) r (record_at new id)) same_record
    (final_same layout now old (kind_at now id) (record_at now id) (record_at new id) strings_now p.offsets f.here) in
    record {
      others = f.others ∙ ap (λ (t : Table). record t { records = new.records }) p.others;
      count = f.count ∙ p.count;
      done = λ k lt. ⊎_elim
          (λ (below : k < id). subst (IsFinal layout old (kind_at old k) (record_at old k)) (sym (f.elsewhere k (λ is. omega (arith, is, below)))) (p.done k below))
          (λ (from : id ≤ k). let is : id ≡ k = omega (arith, from, lt) in subst (λ (j : ℕ). IsFinal layout old (kind_at old j) (record_at old j) (record_at new j)) is final)
          (cases_lt k id);
      rest = λ k le. f.elsewhere k (λ is. omega (arith, is, le)) ∙ p.rest k (omega (arith, le));
      offsets = λ e. ⊎_elim
          (λ (is : e.type ≡ id). ap (λ (k : Option Kind). offset_by layout new k (record_at new e.type) e.offset) (subst (λ (j : ℕ). kind_at new j ≡ kind_at now j) (sym is) f.kind)
          ∙ offset_same layout now new (kind_at now e.type) (record_at now e.type) (record_at new e.type) e.offset strings_new
          (subst (λ (j : ℕ). IsFinal layout now (kind_at now j) (record_at now j) (record_at new j)) (sym is) f.here) ∙ p.offsets e)
          (λ (other : e.type ≢ id). ap (λ (r : Record). offset_by layout new (kind_of r.info) r e.offset) (f.elsewhere e.type other)
          ∙ offset_read layout now new (kind_at now e.type) (record_at now e.type) e.offset strings_new ∙ p.offsets e)
          (cases_eq e.type id);
    }

pub all_final : (layout : Layout) (old new : Table) (id : ℕ) → length old.records ≤ id → ArePartlyFinal layout old new id → IsFinalized layout old new
all_final layout old new id end p = record {
  others = p.others;
  count = p.count;
  each = λ k lt. p.done k (omega (arith, lt, end));
}

-- ---- sizes of STRUCTs

-- the size that is recorded for an id; none for ids after the last
size_at : (rs : List Record) (id : ℕ) → unwrap_or (slice_get (map data_sec_size rs) id) None ≡ data_sec_size (unwrap_or (slice_get rs id) unknown)
size_at rs id =
    ap (λ (o : Option (Option ℕ)). unwrap_or o None) (slice_get-map data_sec_size rs id)
    ∙ elim (slice_get rs id) as (λ (o : Option Record). unwrap_or (option_map data_sec_size o) None ≡ data_sec_size (unwrap_or o unknown)) [ Some r ↦ refl | None ↦ refl ]

-- a STRUCT gets the size that the DATASEC had
sized_is : (old new : Record) (size : ℕ) → data_sec_size old ≡ Some size → sized_record old new ≡ resized_record size new
sized_is old new size is =
    let s : Bool = is_struct (kind_of new.info) in
    let Made : ℕ → Record = λ n. if s then struct new.name n (vlen new.info) new.tail else new in
    elim (has_data_sec_kind (kind_of old.info)) as (λ (d : Bool). (if d then Some old.third else None) ≡ Some size → (if d && s then struct new.name old.third (vlen new.info) new.tail else new) ≡ Made size)
    [ true ↦ λ some. ap Made (same_Some old.third size some) | false ↦ λ none. absurd (none-some size none) ] is

-- other records stay
unsized_is : (old new : Record) → data_sec_size old ≡ None → sized_record old new ≡ new
unsized_is old new is =
    let s : Bool = is_struct (kind_of new.info) in
    elim (has_data_sec_kind (kind_of old.info)) as (λ (d : Bool). (if d then Some old.third else None) ≡ None → (if d && s then struct new.name old.third (vlen new.info) new.tail else new) ≡ new)
    [ true ↦ λ some. absurd (none-some old.third (sym some)) | false ↦ λ none. refl ] is

-- The STRUCTs below this id have their sizes, and the others do not yet.
pub record ArePartlySized (base old now : Table) (id : ℕ) : Type 0 where
  pub others : now ≡ record old { records = now.records }
  pub count : length now.records ≡ length old.records
  pub done : (k : ℕ) → k < id → record_at now k ≡ sized_record (record_at base k) (record_at old k)
  pub rest : (k : ℕ) → id ≤ k → record_at now k ≡ record_at old k

pub none_sized : (base t : Table) → ArePartlySized base t t 0
none_sized base t = record { others = refl; count = refl; done = λ k lt. absurd (omega (arith, lt)); rest = λ k le. refl }

-- no size is recorded for this id
pub id_passed : (base old now : Table) (sizes : List (Option ℕ)) (id : ℕ) → sizes ≡ map data_sec_size base.records → unwrap_or (slice_get sizes id) None ≡ None → ArePartlySized base old now id → ArePartlySized base old now (id + 1)
id_passed base old now sizes id are none p =
    let unsized : data_sec_size (record_at base id) ≡ None = sym (size_at base.records id) ∙ ap (λ (ss : List (Option ℕ)). unwrap_or (slice_get ss id) None) (sym are) ∙ none in
    record {
      others = p.others;
      count = p.count;
      done = λ k lt. ⊎_elim
          (λ (below : k < id). p.done k below)
          (λ (from : id ≤ k). let is : id ≡ k = omega (arith, from, lt) in
          subst (λ (j : ℕ). record_at now j ≡ sized_record (record_at base j) (record_at old j)) is (p.rest id (omega arith) ∙ sym (unsized_is (record_at base id) (record_at old id) unsized)))
          (cases_lt k id);
      rest = λ k le. p.rest k (omega (arith, le));
    }

-- the type of this id gets the size that is recorded for it
pub id_sized : (base old now new : Table) (sizes : List (Option ℕ)) (id size : ℕ) → sizes ≡ map data_sec_size base.records → slice_get sizes id ≡ Some (Some size) → ResizesAt id size now new → ArePartlySized base old now id
    → ArePartlySized base old new (id + 1)
id_sized base old now new sizes id size are some f p =
    let known : data_sec_size (record_at base id) ≡ Some size =
    sym (size_at base.records id) ∙ ap (λ (ss : List (Option ℕ)). unwrap_or (slice_get ss id) None) (sym are) ∙ ap (λ (o : Option (Option ℕ)). unwrap_or o None) some in
    record {
      others = f.others ∙ ap (λ (t : Table). record t { records = new.records }) p.others;
      count = f.count ∙ p.count;
      done = λ k lt. ⊎_elim
          (λ (below : k < id). f.elsewhere k (λ is. omega (arith, is, below)) ∙ p.done k below)
          (λ (from : id ≤ k). let is : id ≡ k = omega (arith, from, lt) in
          subst (λ (j : ℕ). record_at new j ≡ sized_record (record_at base j) (record_at old j)) is
          (f.here ∙ ap (resized_record size) (p.rest id (omega arith)) ∙ sym (sized_is (record_at base id) (record_at old id) size known)))
          (cases_lt k id);
      rest = λ k le. f.elsewhere k (λ is. omega (arith, is, le)) ∙ p.rest k (omega (arith, le));
    }

pub all_sized : (base old new : Table) (id : ℕ) → length old.records ≤ id → ArePartlySized base old new id → new ≡ with_old_sizes base old
all_sized base old new id end p =
    let f : ℕ → Record = λ k. sized_record (record_at base k) (record_at old k) in
    let ids : List ℕ = table_ids old in
    let ids_len : length ids ≡ length old.records = length-range_with_len 0 (length old.records) in
    let same : (k : ℕ) → k < length new.records → get_or new.records k unknown ≡ get_or (map f ids) k unknown =
    λ k lt.
    let within : k < length ids = omega (arith, lt, p.count, ids_len) in
    let id_is : get_or ids k 0 ≡ k = omega (arith, get_or-range_with_len 0 (length old.records) k 0 (omega (arith, lt, p.count))) in
    sym (unwrap_or-slice_get new.records k unknown) ∙ p.done k (omega (arith, lt, p.count, end)) ∙ ap f (sym id_is) ∙ sym (get_or-map f ids k 0 unknown within) in
    p.others ∙ ap (λ (rs : List Record). record old { records = rs }) (ext_get_or unknown new.records (map f ids) (p.count ∙ sym (ids_len) ∙ sym (length-map ids f)) same)

-- ---- one type

-- the type of an id is a DATASEC that is finalized
pub section_final : (layout : Layout) (old new : Table) (id : ℕ) (b : BtfType) (r section : Record) → id < length old.records → b ≡ BtfTypes.DataSec r
    → IsType old id b → IsFinal layout old (Some kinds.DataSec) r section → kind_of section.info ≡ Some kinds.DataSec
    → new ≡ record old { records = set old.records id section; fallbacks = set old.fallbacks id None } → FinalizesAt layout id old new
section_final layout old new id b r section lt is at final kind made =
    let here : record_at old id ≡ r = ap (λ (o : Option Record). unwrap_or o unknown) at.record_is ∙ ap record_of is in
    let old_kind : kind_at old id ≡ Some kinds.DataSec = ap (λ (x : Record). kind_of x.info) (ap (λ (o : Option Record). unwrap_or o unknown) at.record_is) ∙ at.kind_is ∙ ap (λ (x : BtfType). Some (type_kind x)) is in
    let put = replaces old new id section None lt (at.fallback_is ∙ ap (λ (x : BtfType). Some (fallback_of x)) is) made in
    record {
      others = put.others;
      count = put.count;
      here = subst (λ (k : Option Kind). IsFinal layout old k (record_at old id) (record_at new id)) (sym old_kind)
          (subst (λ (x : Record). IsFinal layout old (Some kinds.DataSec) x (record_at new id)) (sym here) (subst (IsFinal layout old (Some kinds.DataSec) r) (sym put.here) final));
      kind = ap (λ (x : Record). kind_of x.info) put.here ∙ kind ∙ sym old_kind;
      elsewhere = put.elsewhere;
    }

-- the type of an id is a STRUCT that gets a size
pub struct_sized : (old new : Table) (id size count : ℕ) (b : BtfType) (r made : Record) → id < length old.records → b ≡ BtfTypes.Struct r
    → IsType old id b → count ≡ vlen r.info → made ≡ struct r.name size count r.tail
    → new ≡ record old { records = set old.records id made; fallbacks = set old.fallbacks id None } → ResizesAt id size old new
struct_sized old new id size count b r made lt is at count_is made_is new_is =
    let here : record_at old id ≡ r = ap (λ (o : Option Record). unwrap_or o unknown) at.record_is ∙ ap record_of is in
    let kind : kind_of r.info ≡ Some kinds.Struct = ap (λ (x : BtfType). kind_of (record_of x).info) (sym is) ∙ at.kind_is ∙ ap (λ (x : BtfType). Some (type_kind x)) is in
    let put = replaces old new id made None lt (at.fallback_is ∙ ap (λ (x : BtfType). Some (fallback_of x)) is) new_is in
    record {
      others = put.others;
      count = put.count;
      here = put.here ∙ made_is ∙ ap (λ (n : ℕ). struct r.name size n r.tail) count_is
          ∙ sym (ap (resized_record size) here ∙ ap (λ (k : Option Kind). if is_struct k then struct r.name size (vlen r.info) r.tail else r) kind);
      elsewhere = put.elsewhere;
    }
