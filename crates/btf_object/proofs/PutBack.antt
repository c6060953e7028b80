-- Externs that are put back into a table.
use Rattle.std.proofs.Common.{◌≡◌, ℕ, suc, ◌+◌, ◌<◌, ◌≤◌, Bool, true, false, ◌&&◌, List, [], ◌∷◌, ◌++◌, length, get_or, set, take, map, Option, None, Some, refl, sym, ap, ◌∙◌, arith}
use Rattle.std.specs.Prelude.{◌||◌, if◌then◌else◌}
use Rattle.std.specs.List.{flat_map, list_any}
use Rattle.std.proofs.lemmas.Bool.{false≢true}
use Rattle.std.proofs.lemmas.List.{map-append, take_more, take_all}
use Rattle.std.proofs.lemmas.List.Folds.{list_any_at, list_any-append}
use Rattle.std.proofs.lemmas.Option.{unwrap_or-slice_get}
use Rattle.btf_model.specs.Record.{Kind, Record, unknown, kind_of}
use Rattle.btf_model.specs.Table.{Table, Fallback}
use Rattle.btf_rewrite_model.specs.Made.{Entry, record_at, kind_at}
use Rattle.btf_rewrite_model.specs.Ksyms as ksyms
use Rattle.btf_plain.specs.Items.{code_entry_words}
use Rattle.btf_plain.specs.declared.items.DataSecEntry.{DataSecEntry}
use Rattle.btf_records.specs.BtfType.{record_of, fallback_of, type_kind}
use Rattle.btf_records.specs.declared.btf_type.BtfType.{BtfType}
use Rattle.btf_records.specs.declared.btf_type.BtfType.TheVariants as BtfTypes
use Rattle.btf_table.specs.Btf.{IsType, HasShapeOf}
use Rattle.btf_table.proofs.KsymsEntries.{at, zero_entry}
use Rattle.btf_object_model.specs.Externs as model
use Rattle.btf_object_model.specs.Externs.{is_still_extern, with_old_extern, with_old_externs, is_still_section, entry_types, with_old_section, with_old_sections, table_has_externs}
use Rattle.btf_object_model.specs.Kconfig.{with_record}
use Rattle.btf_object.specs.Externs.{IsSectionOfExterns, StillSection}
use Rattle.btf_object.proofs.Externs.{at_id, kind_at_id}
use Rattle.btf_object.proofs.FinalSections.{all_entries, entries_len}
use Rattle.btf_object.proofs.Globals.{replaced, types_of}

-- ---- whether there are externs

pub none_more : (t : Table) (i : ℕ) → i < length t.records → list_any (model.has_externs t) (take i t.records) ≡ false → false ≡ model.has_externs t (record_at t i) → list_any (model.has_externs t) (take (i + 1) t.records) ≡ false
none_more t i lt none is =
    ap (list_any (model.has_externs t)) (take_more t.records i unknown lt)
    ∙ list_any-append (model.has_externs t) (take i t.records) (get_or t.records i unknown ∷ []) ∙ ap (λ (b : Bool). b || (model.has_externs t (get_or t.records i unknown) || false)) none
    ∙ ap (λ (b : Bool). b || false) (ap (model.has_externs t) (sym (unwrap_or-slice_get t.records i unknown)) ∙ sym is)

pub none_at_all : (t : Table) (i : ℕ) → length t.records ≤ i → list_any (model.has_externs t) (take i t.records) ≡ false → false ≡ table_has_externs t
none_at_all t i end none = sym none ∙ ap (list_any (model.has_externs t)) (take_all i t.records end)

pub one_there : (t : Table) (i : ℕ) → i < length t.records → true ≡ model.has_externs t (record_at t i) → true ≡ table_has_externs t
one_there t i lt is = sym (list_any_at (model.has_externs t) t.records i unknown lt (ap (model.has_externs t) (sym (unwrap_or-slice_get t.records i unknown)) ∙ sym is))

-- ---- one extern

-- a VAR or a FUNC has no fallback
left_extern : (k l : BtfType) → is_still_extern (Some (type_kind k)) (Some (type_kind l)) ≡ true → fallback_of k ≡ None
left_extern k l is = elim k as (λ (k : BtfType). is_still_extern (Some (type_kind k)) (Some (type_kind l)) ≡ true → fallback_of k ≡ None) [ BtfTypes.Union u ↦ λ h. absurd (false≢true h) | _ ↦ λ h. refl ] is

both : (x y z w : Bool) → ((x && y) || (z && w)) ≡ true → (y || w) ≡ true
both true true z w h = refl
both true false true w h = h
both true false false w h = absurd (false≢true h)
both false true z w h = refl
both false false true w h = h
both false false false w h = absurd (false≢true h)

-- so has the type that it replaces
right_extern : (k l : BtfType) → is_still_extern (Some (type_kind k)) (Some (type_kind l)) ≡ true → fallback_of l ≡ None
right_extern k l is =
    let here : (model.is_variable (Some (type_kind l)) || ksyms.is_func (Some (type_kind l))) ≡ true = both (model.is_variable (Some (type_kind k))) (model.is_variable (Some (type_kind l))) (ksyms.is_func (Some (type_kind k))) (ksyms.is_func (Some (type_kind l))) is in
    elim l as (λ (l : BtfType). (model.is_variable (Some (type_kind l)) || ksyms.is_func (Some (type_kind l))) ≡ true → fallback_of l ≡ None) [ BtfTypes.Union u ↦ λ h. absurd (false≢true h) | _ ↦ λ h. refl ] here

kind_is : (t : Table) (id : ℕ) (b : BtfType) → IsType t id b → kind_at t id ≡ Some (type_kind b)
kind_is t id b is = kind_at_id t id (record_of b) (type_kind b) is.record_is is.kind_is

module _ (old btf : Table) (id : ℕ) (k l : BtfType) (before : IsType old id k) (now : IsType btf id l) where
  tested : is_still_extern (kind_at old id) (kind_at btf id) ≡ is_still_extern (Some (type_kind k)) (Some (type_kind l))
  tested = ap (λ (a : Option Kind). is_still_extern a (kind_at btf id)) (kind_is old id k before) ∙ ap (is_still_extern (Some (type_kind k))) (kind_is btf id l now)

  chosen : (b : Bool) → is_still_extern (Some (type_kind k)) (Some (type_kind l)) ≡ b → with_old_extern old id btf ≡ (if b then with_record btf id (record_at old id) else btf)
  chosen b is = ap (λ (c : Bool). if c then with_record btf id (record_at old id) else btf) (tested ∙ is)

  pub extern_put : (copy : BtfType) (new : Table) → is_still_extern (Some (type_kind k)) (Some (type_kind l)) ≡ true → record_of copy ≡ record_of k → fallback_of copy ≡ fallback_of k
      → new ≡ record btf { records = set btf.records id (record_of copy); fallbacks = set btf.fallbacks id (fallback_of copy) } → new ≡ with_old_extern old id btf
  extern_put copy new is record_is fallback_is made =
      let none : fallback_of copy ≡ None = fallback_is ∙ left_extern k l is in
      let same : record_of copy ≡ record_at old id = record_is ∙ sym (at_id old id (record_of k) before.record_is) in
      let here : new ≡ record btf { records = set btf.records id (record_at old id); fallbacks = set btf.fallbacks id None } =
      made ∙ ap (λ (r : Record). record btf { records = set btf.records id r; fallbacks = set btf.fallbacks id (fallback_of copy) }) same
      ∙ ap (λ (f : Option Fallback). record btf { records = set btf.records id (record_at old id); fallbacks = set btf.fallbacks id f }) none in
      replaced btf new id (record_at old id) (now.fallback_is ∙ ap (λ (f : Option Fallback). Some f) (right_extern k l is)) here ∙ sym (chosen true is)

  pub extern_kept : is_still_extern (Some (type_kind k)) (Some (type_kind l)) ≡ false → btf ≡ with_old_extern old id btf
  extern_kept is = sym (chosen false is)

-- ---- several externs

externs-append : (old : Table) (ids : List ℕ) (id : ℕ) (t : Table) → with_old_externs old (ids ++ id ∷ []) t ≡ with_old_extern old id (with_old_externs old ids t)
externs-append old [] id t = refl
externs-append old (i ∷ ids) id t = externs-append old ids id (with_old_extern old i t)

abbrev type_of : DataSecEntry → ℕ
type_of e = e.btf_type

-- The types of the entries before a place are put back.
abbrev pub ArePutBefore : Table → Table → List DataSecEntry → ℕ → Table → Type 0
ArePutBefore old begun es i now = now ≡ with_old_externs old (map (λ (e : DataSecEntry). e.btf_type) (take i es)) begun

pub one_more_put : (old begun now new : Table) (es : List DataSecEntry) (i : ℕ) → i < length es → ArePutBefore old begun es i now → new ≡ with_old_extern old (at es i).btf_type now → ArePutBefore old begun es (i + 1) new
one_more_put old begun now new es i lt are is =
    let ids : List ℕ = map type_of (take i es) in
    let more : map type_of (take (i + 1) es) ≡ ids ++ (at es i).btf_type ∷ [] = ap (map type_of) (take_more es i zero_entry lt) ∙ map-append type_of (take i es) (at es i ∷ []) in
    is ∙ ap (with_old_extern old (at es i).btf_type) are ∙ sym (ap (λ (xs : List ℕ). with_old_externs old xs begun) more ∙ externs-append old ids (at es i).btf_type begun)

-- ---- a section

pub same_len : (r s : Record) (xs ys : List DataSecEntry) → r.tail ≡ flat_map code_entry_words xs → s.tail ≡ flat_map code_entry_words ys → length xs ≡ length ys → length r.tail ≡ length s.tail
same_len r s xs ys r_is s_is same =
    let a = entries_len xs in
    let b = entries_len ys in
    omega (arith, a, b, same, ap (λ (ns : List ℕ). length ns) r_is, ap (λ (ns : List ℕ). length ns) s_is)

module _ (old btf : Table) (id : ℕ) (r : Record) (is : IsSectionOfExterns old id r) where
  record_is : record_at old id ≡ r
  record_is = at_id old id r is.section.here

  abbrev choice : Bool → Table
  choice b = if b then with_old_externs old (entry_types (record_at old id)) (with_record btf id (record_at old id)) else btf

  tests : (b : Bool) → is_still_section r (record_at btf id) ≡ b → (model.has_externs old (record_at old id) && is_still_section (record_at old id) (record_at btf id)) ≡ b
  tests b still =
      ap (λ (s : Record). model.has_externs old s && is_still_section s (record_at btf id)) record_is ∙ ap (λ (c : Bool). c && is_still_section r (record_at btf id)) is.externs ∙ still

  pub section_kept : is_still_section r (record_at btf id) ≡ false → btf ≡ with_old_section old id btf
  section_kept still = sym (ap choice (tests false still))

  pub section_put : (es : List DataSecEntry) (i : ℕ) (new : Table) → is_still_section r (record_at btf id) ≡ true → r.tail ≡ flat_map code_entry_words es → length es ≤ i → ArePutBefore old (with_record btf id (record_at old id)) es i new → new ≡ with_old_section old id btf
  section_put es i new still words end are =
      let ids_are : map type_of (take i es) ≡ entry_types (record_at old id) =
      ap (map type_of) (take_all i es end) ∙ sym (ap (λ (s : Record). entry_types s) record_is ∙ ap (map (λ (e : Entry). e.type)) (all_entries r.tail es words) ∙ types_of es) in
      are ∙ ap (λ (xs : List ℕ). with_old_externs old xs (with_record btf id (record_at old id))) ids_are ∙ sym (ap choice (tests true still))

  pub section_shape : (copy : Record) → copy ≡ r → StillSection btf id r → HasShapeOf btf id copy
  section_shape copy same still = record {
    old = still.now;
    here = still.section.here;
    kind = ap (λ (s : Record). kind_of s.info) same ∙ is.section.kind ∙ sym still.section.kind;
    len = ap (λ (s : Record). length s.tail) same ∙ still.len;
  }

  pub section_set : (copy : Record) (new : Table) → copy ≡ r → StillSection btf id r → new ≡ record btf { records = set btf.records id copy; fallbacks = set btf.fallbacks id None } → new ≡ with_record btf id (record_at old id)
  section_set copy new same still made =
      replaced btf new id copy still.section.fallback made ∙ ap (with_record btf id) (same ∙ sym record_is)

-- not a section of externs
pub no_section : (old : Table) (id : ℕ) (btf : Table) → model.has_externs old (record_at old id) ≡ false → btf ≡ with_old_section old id btf
no_section old id btf not =
    sym (ap (λ (b : Bool). if b && is_still_section (record_at old id) (record_at btf id) then with_old_externs old (entry_types (record_at old id)) (with_record btf id (record_at old id)) else btf) not)

pub one_more_section : (old begun now new : Table) (id : ℕ) → now ≡ with_old_sections old id begun → new ≡ with_old_section old id now → new ≡ with_old_sections old (id + 1) begun
one_more_section old begun now new id are is =
    let next : suc id ≡ id + 1 = omega arith in
    is ∙ ap (with_old_section old id) are ∙ ap (λ (n : ℕ). with_old_sections old n begun) next
