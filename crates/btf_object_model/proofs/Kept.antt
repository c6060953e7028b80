-- A rewritten object retains the contents of `.BTF.ext`.
use Rattle.std.proofs.Common.{◌≡◌, ◌≢◌, ℕ, ◌<◌, List, [], ◌∷◌, ◌++◌, length, append_assoc, Bool, true, Option, None, Some, Ok, refl, sym, ap, subst, ◌∙◌, arith, false}
use Rattle.std.specs.Prelude.{position, slice_get, slice_set, unwrap_or, nat_lt, if◌then◌else◌}
use Rattle.std.specs.List.{position_or_len}
use Rattle.std.proofs.lemmas.List.Folds.{position_or_len-set}
use Rattle.std.specs.Str.{bytes_eq}
use Rattle.std.proofs.lemmas.Bool.{false≢true}
use Rattle.std.proofs.lemmas.List.{append-nil, get_or-set_other, get_or-set_same, length-set}
use Rattle.std.proofs.lemmas.List.Quantifiers.{position-Some}
use Rattle.std.proofs.lemmas.Option.{same_Some, slice_get_within, slice_get-get_or, get_or_from_slice_get}
use Rattle.std.proofs.lemmas.Slice.Eq.{bytes_eq-Decides}
use Rattle.btf_model.specs.declared.endianness.Endianness.{Endianness}
use Rattle.btf_model.specs.Table.{Table, strip}
use Rattle.btf_model.specs.Blob.{IsTable, canon}
use Rattle.btf_model.specs.Text.{text_at}
use Rattle.btf_model.proofs.Blobs.{same_table}
use Rattle.btf_model.proofs.Texts.{text_stays}
use Rattle.btf_model.specs.Table.{with_string, with_type}
use Rattle.btf_elf_model.specs.Section.{string_from}
use Rattle.btf_elf_model.specs.Object.{Object, IsObject, section_bytes, section_name}
use Rattle.btf_elf_model.specs.Replaced.{ReplacesSection, moved_header, place}
use Rattle.btf_elf_model.specs.declared.section_header.SectionHeader.{SectionHeader}
use Rattle.btf_rewrite_model.specs.Ksyms.{appends_int, int_of_4, int_text}
use Rattle.btf_rewrite_model.specs.Made.{c_int}
use Rattle.btf_rewrite_model.proofs.Kept.{by_table}
use Rattle.btf_rewrite_model.specs.Pass.{Layout}
use Rattle.btf_rewrite_model.specs.Rewritten.{Rewritten}
use Rattle.btf_rewrite_model.specs.declared.feature.FeatureAnswer.{FeatureAnswer}
use Rattle.btf_rewrite_model.specs.declared.feature.BtfFeature.{BtfFeature}
use Rattle.btf_rewrite_model.specs.declared.feature.FillPolicy.{FillPolicy}
use Rattle.btf_rewrite_model.specs.declared.feature.FillPolicy.TheVariants.{FillSized}
use Rattle.btf_rewrite_model.specs.declared.ksyms_ids.KsymsIds.{KsymsIds}
use Rattle.btf_rewrite_model.specs.FeatureSet.{answers_of}
use Rattle.btf_object_model.specs.Layout.{object_layout}
use Rattle.btf_object_model.specs.Finalized.{placeholder_text, with_int, with_variable, has_functions, with_placeholder, with_ksyms_size, with_old_sizes}
use Rattle.btf_object_model.specs.SanitizedFinalized.{RewritesFinalized, IsSanitizedFinalized, written_table, takes_placeholder, begun_table, begun_ids}
use Rattle.btf_object_model.specs.declared.reader.TableReader.{TableReader}
use Rattle.btf_object_model.specs.Laws.{HasSameContents, KeepsExt}
use Rattle.btf_object_model.specs.Sanitized.{Target, HasSection, IsSanitized, first_section_index, table_name, ext_name}
use Rattle.btf_object_model.proofs.Appended.{texts_stay}
use Rattle.btf_object_model.proofs.Exts.{contents_ok, contents_err}
use Rattle.btf_object_model.proofs.Opened.{opened_others, reader_others}

-- the contents do not change if no readable text changes
contents_stay : (old new : Table) → ((offset : ℕ) (text : List ℕ) → text_at old.strings offset ≡ Ok text → text_at new.strings offset ≡ Ok text) → (order : Endianness) (bytes : List ℕ) → HasSameContents order bytes old new
contents_stay old new stays order bytes = record {
  ok = contents_ok old.strings new.strings stays order bytes;
  err = contents_err old.strings new.strings stays order bytes;
}

pub ext_stays : (policy : FillPolicy) (old new : Table) (ids : Option KsymsIds) (layout : Layout) (answers : List FeatureAnswer) → Rewritten policy old ids layout answers new
    → (order : Endianness) (bytes : List ℕ) → HasSameContents order bytes old new
ext_stays policy old new ids layout answers is = contents_stay old new (texts_stay policy old new ids layout answers is)

-- ---- names

-- the first place that passes a test does not change if an element is replaced by one with the same test result
position_stays : {X : Type 0} (p : X → Bool) (xs : List X) (i : ℕ) (x y : X) → slice_get xs i ≡ Some x → p y ≡ p x → position p (slice_set xs i y) ≡ position p xs
position_stays p xs i x y at alike =
    let place : position_or_len p (slice_set xs i y) ≡ position_or_len p xs = position_or_len-set p xs i y x (alike ∙ ap p (sym (get_or_from_slice_get xs i x x at))) in
    let len : length (slice_set xs i y) ≡ length xs = length-set xs i y in
    ap (λ (k : ℕ). if nat_lt k (length (slice_set xs i y)) then Some k else None) place ∙ ap (λ (n : ℕ). if nat_lt (position_or_len p xs) n then Some (position_or_len p xs) else None) len

-- the two names are different
not_both : (name a b : List ℕ) → bytes_eq name a ≡ true → bytes_eq name b ≡ true → a ≡ b
not_both name a b is_a is_b = sym ((bytes_eq-Decides name a).0 is_a) ∙ (bytes_eq-Decides name b).0 is_b

-- the section that is found has the name
found_name : (bytes name : List ℕ) (o : Object) (index : ℕ) (s : SectionHeader) → HasSection bytes name o index s → bytes_eq (section_name o s) name ≡ true
found_name bytes name o index s h =
    ap (λ (t : SectionHeader). bytes_eq (section_name o t) name) (sym (get_or_from_slice_get o.sections index s s h.header))
    ∙ (position-Some (λ (t : SectionHeader). bytes_eq (section_name o t) name) o.sections index s h.first).1

-- a section of a name is determined
same_object : (bytes : List ℕ) (o p : Object) → IsObject bytes o → IsObject bytes p → o ≡ p
same_object bytes o p a b = a.object ∙ sym b.object

-- a table is in one section of an object
same_section : (bytes name : List ℕ) (o p : Object) (i j : ℕ) (s t : SectionHeader) → HasSection bytes name o i s → HasSection bytes name p j t → (o ≡ p) × (i ≡ j) × (s ≡ t)
same_section bytes name o p i j s t h k =
    let objects : o ≡ p = same_object bytes o p h.object k.object in
    let first : first_section_index o name ≡ Some j = ap (λ (q : Object). first_section_index q name) objects ∙ k.first in
    let places : i ≡ j = same_Some i j (sym h.first ∙ first) in
    let header : slice_get o.sections i ≡ Some t = ap (λ (q : Object). slice_get q.sections i) objects ∙ ap (slice_get p.sections) places ∙ k.header in
    (objects, places, same_Some s t (sym h.header ∙ header))

-- The file is the object with the written form of another table in its section `.BTF`. A text that can be read in the
-- old table is read at the same offset in the new one.
record IsRewritten (bytes file : List ℕ) : Type 0 where
  object : Object
  index : ℕ
  header : SectionHeader
  section : HasSection bytes table_name object index header
  old : Table
  new : Table
  table : IsTable object.header.order (section_bytes object header) old
  written : IsTable object.header.order (canon new) (strip new)
  stays : (offset : ℕ) (text : List ℕ) → text_at old.strings offset ≡ Ok text → text_at new.strings offset ≡ Ok text
  replaced : (new_object : Object) × IsObject file new_object × ReplacesSection object index header (canon new) new_object

module _ (bytes file : List ℕ) (z : IsRewritten bytes file) where
  abbrev old : Object
  old = z.object

  abbrev new : Object
  new = z.replaced.0

  abbrev changed : SectionHeader
  changed = moved_header (place old z.index z.header (length (canon z.new))) (length (canon z.new)) z.header

  abbrev written : ReplacesSection old z.index z.header (canon z.new) new
  written = z.replaced.2

  -- each name is at the same place
  index_stays : (name : List ℕ) → first_section_index new name ≡ first_section_index old name
  index_stays name =
      ap (λ (names : Option (List ℕ)). position (λ (s : SectionHeader). bytes_eq (string_from (unwrap_or names []) s.name) name) new.sections) written.names
      ∙ ap (position (λ (s : SectionHeader). bytes_eq (section_name old s) name)) written.sections
      ∙ position_stays (λ (s : SectionHeader). bytes_eq (section_name old s) name) old.sections z.index z.header changed z.section.header refl

  -- the headers of the sections of other indices are unchanged
  header_stays : (index : ℕ) (s : SectionHeader) → index ≢ z.index → slice_get old.sections index ≡ Some s → slice_get new.sections index ≡ Some s
  header_stays index s other at =
      let within : index < length old.sections = slice_get_within old.sections index s at in
      let long : index < length (slice_set old.sections z.index changed) = omega (arith, within, length-set old.sections z.index changed) in
      ap (λ (ss : List SectionHeader). slice_get ss index) written.sections
      ∙ slice_get-get_or (slice_set old.sections z.index changed) index s long
      ∙ ap (λ (t : SectionHeader). Some t) (get_or-set_other old.sections z.index index changed s other ∙ get_or_from_slice_get old.sections index s s at)

  -- the section that was replaced
  header_changes : slice_get new.sections z.index ≡ Some changed
  header_changes =
      let within : z.index < length old.sections = slice_get_within old.sections z.index z.header z.section.header in
      let long : z.index < length (slice_set old.sections z.index changed) = omega (arith, within, length-set old.sections z.index changed) in
      ap (λ (ss : List SectionHeader). slice_get ss z.index) written.sections
      ∙ slice_get-get_or (slice_set old.sections z.index changed) z.index z.header long
      ∙ ap (λ (t : SectionHeader). Some t) (get_or-set_same old.sections z.index changed z.header within)

  -- the new table is in the new object's section
  new_section : HasSection file table_name new z.index changed
  new_section = record { object = z.replaced.1; first = index_stays table_name ∙ z.section.first; header = header_changes }

  -- the contents of `.BTF.ext` with the new table
  says : (index : ℕ) (s : SectionHeader) (old_table new_table : Table) (at at' : ℕ) (t t' : SectionHeader) → HasSection bytes table_name old at t → IsTable old.header.order (section_bytes old t) old_table → HasSection file table_name new at' t'
      → IsTable old.header.order (section_bytes new t') new_table → HasSameContents old.header.order (section_bytes old s) old_table new_table
  says index s old_table new_table at at' t t' has is has' is' =
      let there = same_section bytes table_name old old at z.index t z.header has z.section in
      let there' = same_section file table_name new new at' z.index t' changed has' new_section in
      let order : Endianness = old.header.order in
      let old_is : old_table ≡ z.old =
      same_table order (section_bytes old z.header) old_table z.old (subst (λ (h : SectionHeader). IsTable order (section_bytes old h) old_table) there.2 is) z.table in
      let new_is : new_table ≡ strip z.new =
      same_table order (canon z.new) new_table (strip z.new)
      (subst (λ (b : List ℕ). IsTable order b new_table) written.replaced (subst (λ (h : SectionHeader). IsTable order (section_bytes new h) new_table) there'.2 is')) z.written in
      let same : HasSameContents order (section_bytes old s) z.old z.new = contents_stay z.old z.new z.stays order (section_bytes old s) in
      let stripped : HasSameContents order (section_bytes old s) z.old (strip z.new) = record { ok = same.ok; err = same.err } in
      subst (λ (u : Table). HasSameContents order (section_bytes old s) u new_table) (sym old_is)
      (subst (λ (u : Table). HasSameContents order (section_bytes old s) z.old u) (sym new_is) stripped)

  -- the section of another name is another section
  other_place : (index : ℕ) (s : SectionHeader) → HasSection bytes ext_name old index s → index ≢ z.index
  other_place index s has one =
      let header : s ≡ z.header = same_Some s z.header (sym has.header ∙ ap (slice_get old.sections) one ∙ z.section.header) in
      let is_ext : bytes_eq (section_name old z.header) ext_name ≡ true =
      ap (λ (h : SectionHeader). bytes_eq (section_name old h) ext_name) (sym header) ∙ found_name bytes ext_name old index s has in
      let names : ext_name ≡ table_name = not_both (section_name old z.header) ext_name table_name is_ext (found_name bytes table_name old z.index z.header z.section) in
      false≢true (ap (λ (name : List ℕ). bytes_eq name table_name) names)

  ext_kept : (index : ℕ) (s : SectionHeader) → HasSection bytes ext_name old index s → KeepsExt bytes file old new index s
  ext_kept index s has =
      let other = other_place index s has in
      record {
        section = record { object = z.replaced.1; first = index_stays ext_name ∙ has.first; header = header_stays index s other has.header };
        same_bytes = written.others index s other has.header;
        says = says index s;
      }

rewritten_keeps_ext : (bytes file : List ℕ) → IsRewritten bytes file → (o : Object) (index : ℕ) (s : SectionHeader) → HasSection bytes ext_name o index s
    → (new : Object) × KeepsExt bytes file o new index s
rewritten_keeps_ext bytes file z o index s has =
    let one : o ≡ z.object = same_object bytes o z.object has.object z.section.object in
    let kept : (p : Object) → p ≡ z.object → HasSection bytes ext_name p index s → KeepsExt bytes file p z.replaced.0 index s =
    λ p is here. subst (λ (q : Object). HasSection bytes ext_name q index s → KeepsExt bytes file q z.replaced.0 index s) (sym is) (ext_kept bytes file z index s) here in
    (z.replaced.0, kept o one has)

pub keeps_ext : (bytes file : List ℕ) (target : Target) (answers : List FeatureAnswer) → IsSanitized bytes target file answers → (o : Object) (index : ℕ) (s : SectionHeader) → HasSection bytes ext_name o index s
    → (new : Object) × KeepsExt bytes file o new index s
keeps_ext bytes file target answers z = rewritten_keeps_ext bytes file (record {
  object = z.object;
  index = z.index;
  header = z.header;
  section = z.section;
  old = z.old;
  new = z.new;
  table = z.table.table;
  written = z.table.written;
  stays = texts_stay target.policy z.old z.new z.table.ids (object_layout z.object) (answers_of target.has) z.table.rewritten;
  replaced = z.replaced;
})

-- a placeholder only appends strings
placeholder_strings : (t : Table) (ids : Option KsymsIds) → (more : List ℕ) × ((with_placeholder t ids).strings ≡ t.strings ++ more)
placeholder_strings t ids =
    let added : (int : Table) → (more : List ℕ) × (int.strings ≡ t.strings ++ more) → (all : List ℕ) × ((with_variable (int_of_4 t) int).strings ≡ t.strings ++ all) =
    λ int is. (
      is.0 ++ (placeholder_text ++ 0 ∷ []),
      ap (λ xs. xs ++ placeholder_text ++ 0 ∷ []) is.1 ∙ append_assoc (t.strings ++ is.0) placeholder_text (0 ∷ []) ∙ append_assoc t.strings is.0 (placeholder_text ++ 0 ∷ []),
    ) in
    by_table (λ u. (more : List ℕ) × (u.strings ≡ t.strings ++ more)) (has_functions t ids) (with_variable (int_of_4 t) (with_int t)) t
    (added (with_int t)
    (by_table (λ u. (more : List ℕ) × (u.strings ≡ t.strings ++ more)) (appends_int t None) (with_type (c_int (length t.strings)) None (with_string int_text t)) t
    (int_text ++ 0 ∷ [], append_assoc t.strings int_text (0 ∷ []))
    ([], sym (append-nil t.strings))))
    ([], sym (append-nil t.strings))

-- so does the begin of a rewrite
begun_strings : (b : Bool) (t : Table) (ids : Option KsymsIds) → (more : List ℕ) × ((begun_table b t ids).strings ≡ t.strings ++ more)
begun_strings true t ids = placeholder_strings t ids
begun_strings false t ids = ([], sym (append-nil t.strings))

-- the strings of a table that is finalized are those of the old table, and more
final_texts_stay : (has : BtfFeature → Bool) (reader : TableReader) (o : Object) (bytes : List ℕ) (given base new : Table) (answers : List FeatureAnswer) (r : RewritesFinalized o bytes has reader given base new answers)
    → (offset : ℕ) (text : List ℕ) → text_at given.strings offset ≡ Ok text → text_at (written_table reader given base r.ids new).strings offset ≡ Ok text
final_texts_stay has reader o bytes given base new answers r offset text reads =
    let b : Bool = takes_placeholder reader has in
    let more = begun_strings b base r.ids in
    let same : base.strings ≡ given.strings = ap (λ (t : Table). t.strings) (opened_others o given base r.opened) in
    let written : (written_table reader given base r.ids new).strings ≡ new.strings = ap (λ (t : Table). t.strings) (reader_others reader given (with_old_sizes (with_ksyms_size base r.ids) new)) in
    ap (λ (xs : List ℕ). text_at xs offset) written
    ∙ texts_stay FillSized (begun_table b base r.ids) new (begun_ids b base r.ids) (object_layout o) (answers_of has) r.rewritten offset text
    (ap (λ (xs : List ℕ). text_at xs offset) more.1 ∙ text_stays base.strings more.0 offset text (ap (λ (xs : List ℕ). text_at xs offset) same ∙ reads))

pub finalized_keeps_ext : (bytes file : List ℕ) (has : BtfFeature → Bool) (reader : TableReader) (answers : List FeatureAnswer) → IsSanitizedFinalized bytes has reader file answers → (o : Object) (index : ℕ) (s : SectionHeader) → HasSection bytes ext_name o index s
    → (new : Object) × KeepsExt bytes file o new index s
finalized_keeps_ext bytes file has reader answers z = rewritten_keeps_ext bytes file (record {
  object = z.object;
  index = z.index;
  header = z.header;
  section = z.section;
  old = z.old;
  new = written_table reader z.old z.base z.table.ids z.new;
  table = z.table.table;
  written = z.table.written;
  stays = final_texts_stay has reader z.object (section_bytes z.object z.header) z.old z.base z.new answers z.table;
  replaced = z.replaced;
})
