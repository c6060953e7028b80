-- Joined tables are determined, and the part above the base joins to the table again.
use Rattle.std.proofs.Common.{◌≡◌, ℕ, zero, suc, ◌<◌, ◌≤◌, List, [], ◌∷◌, ◌++◌, length, take, drop, refl, sym, ap, subst, ◌∙◌, arith, inl, inr}
use Rattle.std.specs.List.{flat_map, AllByRecursion}
use Rattle.std.proofs.lemmas.Bool.{cases_lt}
use Rattle.std.proofs.lemmas.List.{length-append, length-drop, length-map, take-append-drop}
use Rattle.std.proofs.lemmas.List.Concat.{flat_map-append}
use Rattle.std.proofs.Math.Seq.{take-append_seam, drop-append_seam}
use Rattle.btf_model.specs.declared.endianness.Endianness.{Endianness}
use Rattle.btf_model.specs.Record.{Record, unknown}
use Rattle.btf_model.specs.Refusal.{Refusal}
use Rattle.btf_model.specs.Spelling.{spell, IsWhole}
use Rattle.btf_model.specs.Table.{Table, type_bytes, section_limit, strip}
use Rattle.btf_model.specs.Blob.{IsTable, IsValid, canon}
use Rattle.btf_model.proofs.Blobs.{same_table, same_refusal, table_not_refused, canon_is_table}
use Rattle.btf_model.proofs.Words.{IsBytes}
use Rattle.btf_split_model.specs.Split.{with_sections, joined, above, split_canon, IsJoined, IsTooLong, IsJoinedRefusal, Extends}
use Rattle.btf_split_model.proofs.Whole.{read_valid}

-- ---- one answer

pub one_joined : (order : Endianness) (base : Table) (bytes : List ℕ) (t u : Table) → IsJoined order base bytes t → IsJoined order base bytes u → t ≡ u
one_joined order base bytes t u h g = h.whole ∙ ap (joined base) (same_table order bytes h.own g.own h.blob g.blob) ∙ sym g.whole

one_excess : (n m : ℕ) (f g : Refusal) → IsTooLong n m f → IsTooLong n m g → f ≡ g
one_excess n m f g h k =
    elim (cases_lt section_limit n) [
      | inl lt ↦ h.strings lt ∙ sym (k.strings lt)
      | inr le ↦ (h.types le).1 ∙ sym (k.types le).1
    ]

pub one_refusal : (order : Endianness) (base : Table) (bytes : List ℕ) (f g : Refusal) → IsJoinedRefusal order base bytes f → IsJoinedRefusal order base bytes g → f ≡ g
one_refusal order base bytes f g (inl h) (inl k) = same_refusal order bytes f g h k
one_refusal order base bytes f g (inl h) (inr k) = absurd (table_not_refused order bytes k.0 f k.1 h)
one_refusal order base bytes f g (inr h) (inl k) = absurd (table_not_refused order bytes h.0 g h.1 k)
one_refusal order base bytes f g (inr h) (inr k) =
    let same = same_table order bytes h.0 k.0 h.1 k.1 in
    one_excess _ _ f g (subst (λ (own : Table). IsTooLong (length (joined base own).strings) (length (type_bytes (joined base own))) f) same h.2) k.2

not_too_long : (n m : ℕ) (f : Refusal) → n ≤ section_limit → m ≤ section_limit → IsTooLong n m f → ⊥
not_too_long n m f strings types h = let long = (h.types strings).0 in omega (arith, long, types)

pub not_both : (order : Endianness) (base : Table) (bytes : List ℕ) (t : Table) (f : Refusal) → IsJoined order base bytes t → IsJoinedRefusal order base bytes f → ⊥
not_both order base bytes t f h (inl k) = table_not_refused order bytes h.own f h.blob k
not_both order base bytes t f h (inr k) =
    let is : t ≡ joined base k.0 = h.whole ∙ ap (joined base) (same_table order bytes h.own k.0 h.blob k.1) in
    not_too_long (length t.strings) (length (type_bytes t)) f h.strings h.types (subst (λ (u : Table). IsTooLong (length u.strings) (length (type_bytes u)) f) (sym is) k.2)

-- ---- the base is the front

pub joined_extends : (order : Endianness) (base : Table) (bytes : List ℕ) (t : Table) → IsJoined order base bytes t → Extends base t
joined_extends order base bytes t h = record {
  records = ap (λ (u : Table). take (length base.records) u.records) h.whole ∙ take-append_seam base.records (drop 1 h.own.records);
  strings = ap (λ (u : Table). take (length base.strings) u.strings) h.whole ∙ take-append_seam base.strings h.own.strings;
}

-- a list that begins with another is this one and the rest
pub front_and_rest : {X : Type 0} (front xs : List X) → take (length front) xs ≡ front → xs ≡ front ++ drop (length front) xs
front_and_rest front xs h = sym (take-append-drop (length front) xs) ∙ ap (λ ys. ys ++ drop (length front) xs) h

-- ---- the part above the base

joined_above : (base t : Table) → Extends base t → strip t ≡ joined base (above (length base.records) (length base.strings) t)
joined_above base t h =
    let records : t.records ≡ base.records ++ drop (length base.records) t.records = front_and_rest base.records t.records h.records in
    let strings : t.strings ≡ base.strings ++ drop (length base.strings) t.strings = front_and_rest base.strings t.strings h.strings in
    λ i. with_sections (strings i) (records i) t

drop_whole : (n : ℕ) (rs : List Record) → AllByRecursion IsWhole rs → AllByRecursion IsWhole (drop n rs)
drop_whole zero rs h = h
drop_whole (suc n) [] h = h
drop_whole (suc n) (r ∷ rs) h = drop_whole n rs h.1

dropped_spelled : (order : Endianness) (n : ℕ) (rs : List Record) → length (flat_map (spell order) (drop n rs)) ≤ length (flat_map (spell order) rs)
dropped_spelled order n rs =
    omega (
      arith,
      ap (λ (xs : List Record). length (flat_map (spell order) xs)) (take-append-drop n rs),
      ap length (flat_map-append (spell order) (take n rs) (drop n rs)),
      length-append (flat_map (spell order) (take n rs)) (flat_map (spell order) (drop n rs)),
    )

-- the records after id 0 from a later id on
behind : (n : ℕ) (rs all : List Record) → all ≡ unknown ∷ rs → drop (suc n) all ≡ drop n rs
behind n rs all is = ap (drop (suc n)) is

-- the part above some records can be written
pub above_valid : (n m : ℕ) (t : Table) → IsValid t → IsValid (above (suc n) m t)
above_valid n m t v =
    let rs = v.records.0 in
    let others : drop (suc n) t.records ≡ drop n rs = behind n rs t.records v.records.1 in
    let types : type_bytes t ≡ flat_map (spell t.order) rs = ap (λ (xs : List Record). flat_map (spell t.order) (drop 1 xs)) v.records.1 in
    let own : type_bytes (above (suc n) m t) ≡ flat_map (spell t.order) (drop n rs) = ap (flat_map (spell t.order)) others in
    record {
      magic = v.magic;
      version = v.version;
      flags = v.flags;
      strings = omega (arith, v.strings, length-drop m t.strings);
      types = omega (arith, v.types, ap length types, ap length own, dropped_spelled t.order n rs);
      records = (drop (suc n) t.records, refl, subst (AllByRecursion IsWhole) (sym others) (drop_whole n rs v.records.2));
      fallbacks = length-map (unknown ∷ drop (suc n) t.records) _;
    }

-- a part that has no fallbacks is stripped already
above_joins : (k m : ℕ) (base t : Table) → k ≡ length base.records → m ≡ length base.strings → IsValid t → 0 < k → Extends base t → IsJoined t.order base (split_canon k m t) (strip t)
above_joins zero m base t k-is m-is v lt h = absurd (omega (arith, lt))
above_joins (suc n) m base t k-is m-is v lt h = record {
  own = above (suc n) m t;
  blob = canon_is_table (above (suc n) m t) (above_valid n m t v);
  whole = joined_above base t h ∙ ap (λ (a : ℕ). joined base (above a (length base.strings) t)) (sym k-is) ∙ ap (λ (b : ℕ). joined base (above (suc n) b t)) (sym m-is);
  strings = v.strings;
  types = v.types;
}

pub extending_joins : (base t : Table) → IsValid t → 0 < length base.records → Extends base t → IsJoined t.order base (split_canon (length base.records) (length base.strings) t) (strip t)
extending_joins base t v lt h = above_joins (length base.records) (length base.strings) base t refl refl v lt h

-- the part above the base of a joined table is the table that was read
own_above : (order : Endianness) (base : Table) (bytes : List ℕ) (own : Table) → IsTable order bytes own → above (length base.records) (length base.strings) (joined base own) ≡ own
own_above order base bytes own h =
    let strings : drop (length base.strings) (base.strings ++ own.strings) ≡ own.strings = drop-append_seam base.strings own.strings in
    let others : drop (length base.records) (base.records ++ drop 1 own.records) ≡ drop 1 own.records = drop-append_seam base.records (drop 1 own.records) in
    let first : unknown ∷ drop 1 own.records ≡ own.records = ap (λ (xs : List Record). unknown ∷ drop 1 xs) h.records.1 ∙ sym h.records.1 in
    let records : unknown ∷ drop (length base.records) (base.records ++ drop 1 own.records) ≡ own.records = ap (λ (xs : List Record). unknown ∷ xs) others ∙ first in
    (λ i. with_sections (strings i) (records i) own) ∙ (λ i. record own { fallbacks = sym h.fallbacks i })

pub parsed_joins : (order : Endianness) (base : Table) (bytes : List ℕ) (t : Table) → IsBytes bytes → IsJoined order base bytes t → IsJoined order base (split_canon (length base.records) (length base.strings) t) t
parsed_joins order base bytes t fits h =
    let own = h.own in
    let v : IsValid own = read_valid order bytes own fits h.blob in
    let same : canon own ≡ split_canon (length base.records) (length base.strings) t = ap canon (sym (own_above order base bytes own h.blob)) ∙ ap (split_canon (length base.records) (length base.strings)) (sym h.whole) in
    let stripped : strip own ≡ own = λ i. record own { fallbacks = sym h.blob.fallbacks i } in
    let blob : IsTable own.order (canon own) (strip own) = canon_is_table own v in
    record {
      own = own;
      blob = subst (λ (b : List ℕ). IsTable order b own) same (subst (λ (o : Endianness). IsTable o (canon own) own) h.blob.same_order (subst (λ (u : Table). IsTable own.order (canon own) u) stripped blob));
      whole = h.whole;
      strings = h.strings;
      types = h.types;
    }
