-- Items that are written to a buffer from an index on.
use Rattle.std.proofs.Common.{◌≡◌, ◌≢◌, ◌∙◌, ◌⊎◌, ◌++◌, ◌<◌, ◌≤◌, ◌+◌, ◌-◌, ◌*◌, ℕ, List, [], Option, Some, None, length, take, drop, inl, inr, refl, sym, ap, subst, arith}
use Rattle.std.specs.Option.{option_and_then, unwrap_or}
use Rattle.std.specs.Prelude.{slice_get, map, min, ◌∷◌}
use Rattle.std.specs.List.{flat_map}
use Rattle.std.proofs.Math.Nat.{min-le_right}
use Rattle.std.proofs.Math.Seq.{drop-append-add, take-append_seam}
use Rattle.std.proofs.lemmas.Grind.{flat_map-append}
use Rattle.std.proofs.lemmas.List.{append_assoc, append-nil, drop-drop, length-append, length-drop, length-map, length-take-le, nil_from_length, take_all, take-append-drop, take-map, take_more}
use Rattle.std.proofs.lemmas.Option.{get_or_from_slice_get, same_Some, slice_get_within}
use borrow.Rule.Slice.PartMut.{mid_of, put_mid}
use Rattle.btf_model.specs.declared.endianness.Endianness.{Endianness}
use Rattle.btf_model.specs.Record.{Kind, Record, Struct, Union, Var, kind_of, vlen, tail_words}
use Rattle.btf_model.specs.Word.{words_at}
use Rattle.btf_view.specs.Forms.{Begins, HasAppended}
use Rattle.btf_view.specs.Items.{AppendsMembers, ListsMembers, members, member_forms, members_or_none}
use Rattle.btf_view.proofs.Fills.{Written}
use Rattle.btf_view.specs.Record.{HasTail}
use Rattle.btf_view.specs.declared.forms.Member.{Member}

-- items that are written to the part of a buffer from an index on
pub appended : {X : Type 0} (items old new : List X) (at n : ℕ) → at ≤ length old → length items ≤ length old - at → Begins (take (length (mid_of at (length old - at) old)) items) (mid_of at (length old - at) old) new n → HasAppended items old (put_mid at (length old - at) old new) at (Some n)
appended {X} items old new at n le fits h =
    let k : ℕ = length old - at in
    let whole : mid_of at k old ≡ drop at old = take_all k (drop at old) (omega (arith, length-drop at old)) in
    let len : length (mid_of at k old) ≡ k = ap (λ (xs : List X). length xs) whole ∙ length-drop at old in
    let all : take (length (mid_of at k old)) items ≡ items = ap (λ (m : ℕ). take m items) len ∙ take_all k items fits in
    let count : n ≡ length items = h.0 ∙ ap (λ (xs : List X). length xs) all in
    let is : new ≡ items ++ drop (at + n) old = h.1 ∙ ap (λ (xs : List X). xs ++ drop n (mid_of at k old)) all ∙ ap (λ (ys : List X). items ++ ys) (ap (λ (xs : List X). drop n xs) whole ∙ drop-drop n at old) in
    let none : drop k (drop at old) ≡ [] = nil_from_length (drop k (drop at old)) (omega (arith, length-drop k (drop at old), length-drop at old)) in (
      count,
      omega (arith, count, fits, le),
      ap (λ (ys : List X). take at old ++ (new ++ ys)) none ∙ ap (λ (ys : List X). take at old ++ ys) (append-nil new ∙ is),
    )

-- the members of a record of a kind
members_by : (r : Record) (k : Kind) → kind_of r.info ≡ Some k → members_or_none r ≡ unwrap_or (members k r) []
members_by r k has = ap (λ (kind : Option Kind). unwrap_or (option_and_then (λ k. members k r) kind) []) has

-- a record of a kind without members
pub no_members_of : (r : Record) (k : Kind) → kind_of r.info ≡ Some k → members k r ≡ None → members_or_none r ≡ []
no_members_of r k has none = members_by r k has ∙ ap (λ (ms : Option (List Member)). unwrap_or ms []) none

-- nothing is written
pub none_appended : (r : Record) (old : List Member) (at : ℕ) → members_or_none r ≡ [] → at ≤ length old → HasAppended (members_or_none r) old old at (Some 0)
none_appended r old at none le =
    let zero : at ≡ at + 0 = omega arith in (
      ap (λ (ms : List Member). length ms) (sym none),
      omega (arith, le),
      sym (take-append-drop at old) ∙ ap (λ (n : ℕ). take at old ++ drop n old) zero ∙ ap (λ (ms : List Member). take at old ++ (ms ++ drop (at + 0) old)) (sym none),
    )

-- the members of a STRUCT or UNION, by its words
members_appended : (order : Endianness) (tail : List ℕ) (info at : ℕ) (result : Option ℕ) (r : Record) (k : Kind) (old new : List Member)
    → kind_of r.info ≡ Some k → info ≡ r.info → HasTail order tail r
    → k ≢ Var → ((n : ℕ) → tail_words k n ≡ 3 * n) → members k r ≡ Some (member_forms r.info r.tail)
    → AppendsMembers order info tail old new at result
    → HasAppended (members_or_none r) old new at result
members_appended order tail info at result r k old new kind info-is t not-var three lists written =
    let same : t.kind ≡ k = same_Some t.kind k (sym t.has ∙ kind) in
    let len : length r.tail ≡ 3 * vlen info = t.len ∙ ap (λ (j : Kind). tail_words j (vlen r.info)) same ∙ three (vlen r.info) ∙ ap (λ (i : ℕ). 3 * vlen i) (sym info-is) in
    let words : r.tail ≡ words_at order (3 * vlen info) tail = t.words (λ e. not-var (sym same ∙ e)) ∙ ap (λ (n : ℕ). words_at order n tail) len in
    let items : member_forms info (words_at order (3 * vlen info) tail) ≡ member_forms r.info r.tail = (λ i. member_forms (info-is i) (sym words i)) in
    let of : members_or_none r ≡ member_forms r.info r.tail = members_by r k kind ∙ ap (λ (ms : Option (List Member)). unwrap_or ms []) lists in
    subst (λ (ms : List Member). HasAppended ms old new at result) (items ∙ sym of) (written (omega (arith, t.long, len)))

pub struct_appended : (order : Endianness) (tail : List ℕ) (info at : ℕ) (result : Option ℕ) (r : Record) (old new : List Member)
    → (kind_of r.info ≡ Some Struct) ⊎ (kind_of r.info ≡ Some Union) → info ≡ r.info → HasTail order tail r
    → AppendsMembers order info tail old new at result
    → HasAppended (members_or_none r) old new at result
struct_appended order tail info at result r old new (inl kind) info-is t written = members_appended order tail info at result r Struct old new kind info-is t (λ e. cc) (λ n. refl) refl written
struct_appended order tail info at result r old new (inr kind) info-is t written = members_appended order tail info at result r Union old new kind info-is t (λ e. cc) (λ n. refl) refl written

-- ---- the members of many records

-- the members of the first records are written
pub record AreAppended (rs : List Record) (old out : List Member) (i written : ℕ) : Type 0 where
  pub is : out ≡ flat_map members_or_none (take i rs) ++ drop written old
  pub count : written ≡ length (flat_map members_or_none (take i rs))
  pub fits : written ≤ length old

pub nothing_appended : (rs : List Record) (old : List Member) → AreAppended rs old old 0 0
nothing_appended rs old = record { is = refl; count = refl; fits = omega arith }

-- those of one more record
pub one_appended : (rs : List Record) (old out new : List Member) (i written n : ℕ) (r : Record) → AreAppended rs old out i written → slice_get rs i ≡ Some r → HasAppended (members_or_none r) out new written (Some n) → AreAppended rs old new (i + 1) (written + n)
one_appended rs old out new i written n r h there more =
    let F : List Member = flat_map members_or_none (take i rs) in
    let next : take (i + 1) rs ≡ take i rs ++ r ∷ [] = take_more rs i r (slice_get_within rs i r there) ∙ ap (λ y. take i rs ++ y ∷ []) (get_or_from_slice_get rs i r r there) in
    let all : flat_map members_or_none (take (i + 1) rs) ≡ F ++ members_or_none r =
    ap (λ (xs : List Record). flat_map members_or_none xs) next ∙ flat_map-append members_or_none (take i rs) (r ∷ []) ∙ ap (λ (ms : List Member). F ++ ms) (append-nil (members_or_none r)) in
    let len : length out ≡ length old = ap (λ (ms : List Member). length ms) h.is ∙ length-append F (drop written old) ∙ omega (arith, h.count, h.fits, length-drop written old) in
    let before : take written out ≡ F =
    ap (λ (ms : List Member). take written ms) h.is ∙ ap (λ (m : ℕ). take m (F ++ drop written old)) h.count ∙ take-append_seam F (drop written old) in
    let after : drop (written + n) out ≡ drop (written + n) old =
    ap (λ (ms : List Member). drop (written + n) ms) h.is ∙ ap (λ (m : ℕ). drop (m + n) (F ++ drop written old)) h.count ∙ drop-append-add F (drop written old) n ∙ drop-drop n written old in
    record {
      is = more.2 ∙ ap (λ (ms : List Member). ms ++ (members_or_none r ++ drop (written + n) out)) before
          ∙ ap (λ (ms : List Member). F ++ (members_or_none r ++ ms)) after
          ∙ sym (append_assoc F (members_or_none r) (drop (written + n) old)) ∙ ap (λ (ms : List Member). ms ++ drop (written + n) old) (sym all);
      count = omega (arith, h.count, more.0, length-append F (members_or_none r)) ∙ ap (λ (ms : List Member). length ms) (sym all);
      fits = omega (arith, more.1, len);
    }

-- the numbers of the first records' members
pub counts_begin : (f : Record → ℕ) (rs : List Record) (old new : List ℕ) (i : ℕ) → i ≤ length rs → Written (map f rs) old new i → Begins (map f (take i rs)) old new i
counts_begin f rs old new i le h = (
  sym (length-map (take i rs) f ∙ length-take-le i rs le),
  sym (take-append-drop i new) ∙ ap (λ (ns : List ℕ). ns ++ drop i new) (h.written ∙ take-map f i rs) ∙ ap (λ (ns : List ℕ). map f (take i rs) ++ ns) h.unchanged,
)

-- the outcome after a number of records
pub members_listed_to : (rs : List Record) (old_counts counts : List ℕ) (old out : List Member) (i written : ℕ) → i ≤ length rs → Written (map (λ r. length (members_or_none r)) rs) old_counts counts i → AreAppended rs old out i written
    → (i ≡ min (length old_counts) (length rs)) ⊎ ((r : Record) × (slice_get rs i ≡ Some r) × (length old < written + length (members_or_none r)))
    → ListsMembers rs old_counts counts old out i written
members_listed_to rs old_counts counts old out i written le numbers h stops =
    record { counts = counts_begin (λ r. length (members_or_none r)) rs old_counts counts i le numbers; members = (h.count, h.is); stops = stops }

-- no record is there
pub nothing_listed : (counts : List ℕ) (out : List Member) → ListsMembers [] counts counts out out 0 0
nothing_listed counts out = record { counts = (refl, refl); members = (refl, refl); stops = inl (omega (arith, min-le_right (length counts) 0)) }
