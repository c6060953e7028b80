-- The part of a table above a base: over the names of the base, and as it is written.
use Rattle.std.proofs.Common.{◌≡◌, ◌∙◌, ℕ, suc, ◌+◌, ◌<◌, ◌≤◌, Bool, true, false, ◌||◌, if◌then◌else◌, List, [], ◌∷◌, ◌++◌, length, take, drop, map, get_or, Option, Some, None, Result, Ok, Err, sym, ap, subst, arith, take-suc}
use Rattle.std.specs.Prelude.{◌==◌, nat_lt}
use Rattle.std.specs.List.{flat_map}
use Rattle.std.proofs.lemmas.List.{append_assoc, map-append, length-append, length-map, length-take-le, take-append-drop}
use Rattle.std.proofs.Math.Seq.{take-append_seam, drop-append_seam}
use Rattle.btf_model.specs.declared.endianness.Endianness.{Endianness}
use Rattle.btf_model.specs.Record.{Record}
use Rattle.btf_model.specs.Refusal.{Refusal, UnknownBtfType, InvalidStringOffset}
use Rattle.btf_model.specs.Table.{Table, strip, with_string, with_type}
use Rattle.btf_model.specs.Blob.{IsTable}
use Rattle.btf_model.proofs.Comparisons.{same_ok}
use Rattle.btf_records.specs.BtfType.{record_of}
use Rattle.btf_records.specs.declared.btf_type.BtfType.{BtfType}
use Rattle.btf_split_model.specs.Split.{with_sections, over_base, split_canon, split_blob, IsJoined}
use Rattle.btf_split.specs.Blob.{JoinsAgain}
use Rattle.btf_rewrite_model.specs.Made.{c_int}
use Rattle.btf_rewrite_model.specs.Ksyms.{appends_int, int_text, each_stepped}
use Rattle.btf_rewrite_model.specs.Pass.{no_layout, texts_below}
use Rattle.btf_rewrite_model.specs.Rewritten.{begun, old_count, pass_of, with_zero_byte}
use Rattle.btf_rewrite_model.specs.FeatureSet.{answers_of}
use Rattle.btf_rewrite_model.specs.declared.feature.FeatureAnswer.{FeatureAnswer}
use Rattle.btf_rewrite_model.specs.declared.ksyms_ids.KsymsIds.{KsymsIds}
use Rattle.btf_rewrite_model.proofs.Kept.{by_table}
use Rattle.btf_rewrite_model.proofs.FewAdded.{few_in_a_rewrite}
use Rattle.btf_table.specs.PassStep.{given_under}
use Rattle.btf_table.proofs.Rewriting.{rewritten_order}
use Rattle.btf_object_model.specs.Sanitized.{Target}
use Rattle.btfobj_cli.specs.Rewrite.{RewritesTable}
use Rattle.btfobj_cli.specs.Part.{only_name, only_names, names_only, HasNamesOf, HasPartOf, RewritesPart}

-- ---- the names of a base

-- one record more after id 0
pub names_push : (records : List Record) (r : Record) → 0 < length records → only_names (records ++ r ∷ []) ≡ only_names records ++ only_name r ∷ []
names_push [] r lt = absurd (omega (arith, lt))
names_push (first ∷ records) r lt = ap (λ (rs : List Record). first ∷ rs) (map-append only_name records (r ∷ []))

pub names_next : (types : List BtfType) (i : ℕ) (t : BtfType) → 1 ≤ i → i < length types → t ≡ get_or types i t
    → only_names (map record_of (take (i + 1) types)) ≡ only_names (map record_of (take i types)) ++ only_name (record_of t) ∷ []
names_next types i t some lt is =
    let next : i + 1 ≡ suc i = omega arith in
    let before : List Record = map record_of (take i types) in
    let more : take (i + 1) types ≡ take i types ++ t ∷ [] = ap (λ (n : ℕ). take n types) next ∙ take-suc types i t lt ∙ ap (λ (x : BtfType). take i types ++ x ∷ []) (sym is) in
    let len : length before ≡ i = omega (arith, lt, length-map (take i types) record_of, length-take-le i types (omega (arith, lt))) in
    ap (λ (ts : List BtfType). only_names (map record_of ts)) more
    ∙ ap only_names (map-append record_of (take i types) (t ∷ []))
    ∙ names_push before (record_of t) (omega (arith, len, some))

-- a table over the names of a base, by these names
pub over_names : (order : Endianness) (base names : Table) (bytes : List ℕ) (t : Table) → HasNamesOf base names → IsJoined order names bytes t → IsJoined order (names_only base) bytes t
over_names order base names bytes t has h = record {
  own = h.own;
  blob = h.blob;
  whole = h.whole ∙ (λ i. with_sections (has.strings i ++ h.own.strings) (has.records i ++ drop 1 h.own.records) h.own);
  strings = h.strings;
  types = h.types;
}

-- ---- what a call over a base returns

abbrev IsGiven : {X : Type 0} → Result X Refusal → Type 0
IsGiven (Ok x) = Unit {0}
IsGiven (Err e) = ⊥

choice : {X : Type 0} (a b : Bool) (e f : Refusal) (x y : X) → ◌≡◌ {A = Result X Refusal} (Ok y) (if a then Err e else (if b then Err f else Ok x)) → y ≡ x
choice true b e f x y is = absurd (subst IsGiven is tt)
choice false true e f x y is = absurd (subst IsGiven is tt)
choice false false e f x y is = same_ok {E = Refusal} y x is

pub given_over : {X : Type 0} (n m : ℕ) (t : Table) (x y : X) → ◌≡◌ {A = Result X Refusal} (Ok y) (over_base n m t x) → y ≡ x
given_over n m t x y is = choice ((n == 0) || nat_lt (length t.records) n) (nat_lt (length t.strings) m) (UnknownBtfType n) (InvalidStringOffset m) x y is

-- ---- a rewrite only appends strings

-- the strings of a table begin with these
abbrev BeginsWith : List ℕ → Table → Type 0
BeginsWith front t = (rest : List ℕ) × (t.strings ≡ front ++ rest)

longer : (front strings more : List ℕ) → ((rest : List ℕ) × (strings ≡ front ++ rest)) → (rest : List ℕ) × (strings ++ more ≡ front ++ rest)
longer front strings more h = (h.0 ++ more, ap (λ (s : List ℕ). s ++ more) h.1 ∙ append_assoc front h.0 more)

begun_strings : (front : List ℕ) (old : Table) (ids : Option KsymsIds) → BeginsWith front old → BeginsWith front (begun old ids)
begun_strings front old None h = h
begun_strings front old (Some ids) h =
    by_table (BeginsWith front) (appends_int old ids.placeholder_id) (with_type (c_int (length old.strings)) None (with_string int_text (each_stepped old ids))) (each_stepped old ids)
    (longer front (old.strings ++ int_text) (0 ∷ []) (longer front old.strings int_text h)) h

-- ---- the part that is written

module _ (order : Endianness) (base old new : Table) (bytes file : List ℕ) (target : Target) (answers : List FeatureAnswer)
    (over : IsJoined order (names_only base) bytes old) (made : RewritesTable old target new answers)
    (written : ◌≡◌ {A = Result (List ℕ) Refusal} (Ok file) (split_blob (length base.records) (length base.strings) new)) (again : JoinsAgain new (length base.records) (length base.strings) file) where
  order_is : new.order ≡ order
  order_is =
      rewritten_order old new made.ids (given_under target.policy no_layout) (answers_of target.has) made.rewritten
      ∙ ap (λ (t : Table). t.order) over.whole ∙ over.blob.same_order

  strings_are : BeginsWith base.strings new
  strings_are =
      let start : Table = begun old made.ids in
      let p = pass_of target.policy old made.ids no_layout (answers_of target.has) in
      let h : BeginsWith base.strings start = begun_strings base.strings old made.ids (over.own.strings, ap (λ (t : Table). t.strings) over.whole) in
      let all = longer base.strings start.strings (flat_map with_zero_byte (texts_below p (old_count p))) h in
      (all.0, ap (λ (t : Table). t.strings) made.rewritten.table ∙ all.1)

  front_strings : take (length base.strings) new.strings ≡ base.strings
  front_strings = ap (take (length base.strings)) strings_are.1 ∙ take-append_seam base.strings strings_are.0

  names_len : length (only_names base.records) ≡ length base.records
  names_len =
      omega (
        arith,
        length-append (take 1 base.records) (map only_name (drop 1 base.records)),
        length-map (drop 1 base.records) only_name,
        ap length (take-append-drop 1 base.records),
        length-append (take 1 base.records) (drop 1 base.records),
      )

  enough : length base.records ≤ length new.records
  enough =
      omega (
        arith,
        names_len,
        ap (λ (t : Table). length t.records) over.whole,
        length-append (only_names base.records) (drop 1 over.own.records),
        (few_in_a_rewrite target.policy old new made.ids no_layout (answers_of target.has) made.rewritten).0,
      )

  -- the first records and strings of the new table
  abbrev front : Table
  front = with_sections (take (length base.strings) new.strings) (take (length base.records) new.records) new

  records_len : length front.records ≡ length base.records
  records_len = length-take-le (length base.records) new.records enough

  strings_len : length front.strings ≡ length base.strings
  strings_len = ap length front_strings

  over_front : IsJoined new.order front file (strip new)
  over_front =
      again front
      (record { records = ap (λ (n : ℕ). take n new.records) records_len; strings = ap (λ (n : ℕ). take n new.strings) strings_len }) records_len strings_len

  has_part : HasPartOf order base file new
  has_part =
      let own : Table = over_front.own in
      let records : drop (length base.records) new.records ≡ drop 1 own.records =
      ap (λ (t : Table). drop (length base.records) t.records) over_front.whole
      ∙ ap (λ (n : ℕ). drop n (front.records ++ drop 1 own.records)) (sym records_len) ∙ drop-append_seam front.records (drop 1 own.records) in
      record {
        own = own;
        is_table = subst (λ (o : Endianness). IsTable o file own) order_is over_front.blob;
        strings = ap (λ (s : List ℕ). s ++ own.strings) (sym front_strings) ∙ sym (ap (λ (t : Table). t.strings) over_front.whole);
        records = drop-append_seam base.records (drop 1 own.records) ∙ sym records;
      }

  pub rewrites_part : RewritesPart order base bytes target file answers
  rewrites_part = record {
    old = old;
    new = new;
    table = over;
    rewritten = made;
    written = given_over (length base.records) (length base.strings) new (split_canon (length base.records) (length base.strings) new) file written;
    part = has_part;
  }
