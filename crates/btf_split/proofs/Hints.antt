-- The records at the front of a type section, and the names that are not in its own strings.
use Rattle.std.proofs.Common.{◌≡◌, ℕ, zero, suc, ◌+◌, ◌*◌, ◌<◌, ◌≤◌, List, ◌++◌, length, take, drop, None, Some, refl, sym, ap, subst, ◌∙◌, arith, inl, inr, ◌⊎◌}
use Rattle.std.specs.Prelude.{◌↔◌, slice_get}
use Rattle.std.proofs.lemmas.List.{length-drop, drop-drop, take-append-drop}
use Rattle.btf_model.specs.declared.endianness.Endianness.{Endianness}
use Rattle.btf_model.specs.Record.{Kind, Unknown, Int, Ptr, Array, Struct, Union, Enum, Fwd, Typedef, Volatile, Const, Restrict, Func, FuncProto, Var, DataSec, Float, DeclTag, TypeTag, Enum64, Record, kinds, kind_number, kind_of, vlen, tail_words}
use Rattle.btf_model.specs.Spelling.{HasKind, kept, IsRecord}
use Rattle.btf_model.specs.Blob.{BeginsNoRecord}
use Rattle.btf_model.proofs.Words.{IsBytes, length-words_at, words_at_fit, spelled-words_at}
use Rattle.btf_model.proofs.Records.{same_record}
use Rattle.btf_model.proofs.Reading.{record_at, info_at, reads_other_kind, reads_cut}
use Rattle.btf_plain.specs.Head.{IsHead}
use Rattle.btf_plain.specs.declared.head.Head.{Head}
use Rattle.btf_split_model.specs.Hint.{NamesBeyond, hint_records}
use Rattle.btf_split.specs.Hint.{kept_name}

-- ---- the first record

-- the record at the front of the bytes has this name, and rest follows it
abbrev pub IsFront : Endianness → List ℕ → ℕ → List ℕ → Type 0
IsFront order bytes name rest = (front : List ℕ) × (r : Record) × (bytes ≡ front ++ rest) × IsRecord order front r × (name ≡ r.name)

name_kept : (k : Kind) (w : Record) → (kept k w).name ≡ kept_name k w.name
name_kept Unknown w = refl
name_kept Int w = refl
name_kept Ptr w = refl
name_kept Array w = refl
name_kept Struct w = refl
name_kept Union w = refl
name_kept Enum w = refl
name_kept Fwd w = refl
name_kept Typedef w = refl
name_kept Volatile w = refl
name_kept Const w = refl
name_kept Restrict w = refl
name_kept Func w = refl
name_kept FuncProto w = refl
name_kept Var w = refl
name_kept DataSec w = refl
name_kept Float w = refl
name_kept DeclTag w = refl
name_kept TypeTag w = refl
name_kept Enum64 w = refl

behind_head : (order : Endianness) (bytes : List ℕ) (head : Head) (tail : List ℕ) → IsHead order bytes head tail → tail ≡ drop 12 bytes
behind_head order bytes head tail h = h.behind ∙ ap (drop 4) (drop-drop 4 4 bytes) ∙ drop-drop 4 8 bytes

-- a number without a kind begins no record
pub other_kind : (order : Endianness) (bytes : List ℕ) (head : Head) (tail : List ℕ) (n : ℕ) → IsHead order bytes head tail → n ≡ kind_number head.info → slice_get kinds n ≡ None → BeginsNoRecord order bytes
other_kind order bytes head tail n h n-is none =
    let same : n ≡ kind_number (info_at order bytes) = n-is ∙ ap kind_number h.info in
    (reads_other_kind order bytes h.long (ap (λ (m : ℕ). slice_get kinds m) (sym same) ∙ none)).0

-- a truncated tail is no record
pub cut_tail : (order : Endianness) (bytes : List ℕ) (head : Head) (tail : List ℕ) (k : Kind) (n : ℕ) → IsHead order bytes head tail → kind_of head.info ≡ Some k → n ≡ tail_words k (vlen head.info) → length tail < 4 * n → BeginsNoRecord order bytes
cut_tail order bytes head tail k n h kind n-is lt =
    let same : n ≡ tail_words k (vlen (info_at order bytes)) = n-is ∙ ap (λ (i : ℕ). tail_words k (vlen i)) h.info in
    (reads_cut order bytes k h.long (ap kind_of (sym h.info) ∙ kind) (omega (arith, lt, same, h.long, ap length (behind_head order bytes head tail h), length-drop 12 bytes))).0

-- the words at the front are a record, if they are complete
pub front_is_record : (order : Endianness) (bytes : List ℕ) (head : Head) (tail rest : List ℕ) (k : Kind) (n name : ℕ) → IsBytes bytes → IsHead order bytes head tail → kind_of head.info ≡ Some k → n ≡ tail_words k (vlen head.info) → 4 * n ≤ length tail → rest ≡ drop (4 * n) tail → name ≡ kept_name k head.name → IsFront order bytes name rest
front_is_record order bytes head tail rest k n name fits h kind n-is le rest-is name-is =
    let tail-is : tail ≡ drop 12 bytes = behind_head order bytes head tail h in
    let long : 12 + 4 * n ≤ length bytes = omega (arith, le, ap length tail-is, length-drop 12 bytes, h.long) in
    let count : ℕ = 4 * suc (suc (suc n)) in
    let le : count ≤ length bytes = omega (arith, long) in
    let w : Record = record_at order n bytes in
    let has : HasKind k w = record {
      kind = ap kind_of (sym h.info) ∙ kind;
      tail = length-words_at order n (drop 4 (drop 4 (drop 4 bytes))) ∙ n-is ∙ ap (λ (i : ℕ). tail_words k (vlen i)) h.info;
      words = words_at_fit order (suc (suc (suc n))) bytes fits;
    } in
    let is : IsRecord order (take count bytes) (kept k w) = (k, w, has, sym (spelled-words_at order (suc (suc (suc n))) bytes fits le), refl) in
    let after : drop count bytes ≡ rest =
    ap (λ (m : ℕ). drop m bytes) (omega arith) ∙ sym (drop-drop (4 * n) 12 bytes) ∙ ap (drop (4 * n)) (sym tail-is) ∙ sym rest-is in
    let cut : bytes ≡ take count bytes ++ rest = sym (take-append-drop count bytes) ∙ ap (λ (x : List ℕ). take count bytes ++ x) after in
    (take count bytes, kept k w, cut, is, name-is ∙ ap (kept_name k) h.name ∙ sym (name_kept k w))

-- ---- names beyond the own strings

pub none_beyond : (order : Endianness) (limit n : ℕ) (bytes : List ℕ) → BeginsNoRecord order bytes → NamesBeyond order limit n bytes → ⊥
none_beyond order limit zero bytes none h = h
none_beyond order limit (suc n) bytes none h = none h.0 h.1 h.2 h.3 h.4

pub first_beyond : (order : Endianness) (limit n name : ℕ) (bytes rest : List ℕ) → IsFront order bytes name rest → limit ≤ name → NamesBeyond order limit (suc n) bytes
first_beyond order limit n name bytes rest h le = (h.0, rest, h.1, h.2, h.3, inl (omega (arith, le, h.4)))

-- if the first name is below the limit, the others decide
pub others_beyond : (order : Endianness) (limit n name : ℕ) (bytes rest : List ℕ) → IsFront order bytes name rest → name < limit → NamesBeyond order limit (suc n) bytes ↔ NamesBeyond order limit n rest
others_beyond order limit n name bytes rest h lt = (only, λ more. (h.0, rest, h.1, h.2, h.3, inr more))
  where
    below : (front behind : List ℕ) (r : Record) → bytes ≡ front ++ behind → IsRecord order front r → (limit ≤ r.name) ⊎ NamesBeyond order limit n behind → NamesBeyond order limit n rest
    below front behind r is record_is (inl le) =
        let same = same_record order front h.0 r h.1 behind rest record_is h.3 (sym is ∙ h.2) in
        absurd (omega (arith, le, lt, h.4, ap (λ (x : Record). x.name) same.record_is))
    below front behind r is record_is (inr more) =
        let same = same_record order front h.0 r h.1 behind rest record_is h.3 (sym is ∙ h.2) in
        subst (NamesBeyond order limit n) same.rest more

    only : NamesBeyond order limit (suc n) bytes → NamesBeyond order limit n rest
    only p = below p.0 p.1 p.2 p.3 p.4 p.5

-- ---- the loop

-- So many records are left, and whether one of them has such a name decides the question.
pub record Left (order : Endianness) (limit : ℕ) (types rest : List ℕ) (read : ℕ) : Type 0 where
  pub left : ℕ
  pub all : left + read ≡ hint_records
  pub same : NamesBeyond order limit hint_records types ↔ NamesBeyond order limit left rest

pub left_at_first : (order : Endianness) (limit : ℕ) (types : List ℕ) → Left order limit types types 0
left_at_first order limit types = record { left = hint_records; all = refl; same = (λ h. h, λ h. h) }

-- no record is left
pub left_none : (order : Endianness) (limit : ℕ) (types rest : List ℕ) (read : ℕ) → Left order limit types rest read → BeginsNoRecord order rest → NamesBeyond order limit hint_records types → ⊥
left_none order limit types rest read l none h = none_beyond order limit l.left rest none (l.same.0 h)

-- the first record that is left
pub left_found : (order : Endianness) (limit : ℕ) (types rest : List ℕ) (read name : ℕ) (behind : List ℕ) → Left order limit types rest read → read < hint_records → IsFront order rest name behind → limit ≤ name → NamesBeyond order limit hint_records types
left_found order limit types rest read name behind l lt front le = l.same.1 (found l.left (omega (arith, l.all, lt)))
  where
    found : (n : ℕ) → 0 < n → NamesBeyond order limit n rest
    found zero some = absurd (omega (arith, some))
    found (suc n) some = first_beyond order limit n name rest behind front le

pub left_on : (order : Endianness) (limit : ℕ) (types rest : List ℕ) (read name : ℕ) (behind : List ℕ) → Left order limit types rest read → read < hint_records → IsFront order rest name behind → name < limit → Left order limit types behind (read + 1)
left_on order limit types rest read name behind l lt front below = on l.left l.all l.same
  where
    on : (n : ℕ) → n + read ≡ hint_records → (NamesBeyond order limit hint_records types ↔ NamesBeyond order limit n rest) → Left order limit types behind (read + 1)
    on zero all same = absurd (omega (arith, all, lt))
    on (suc n) all same =
        let others = others_beyond order limit n name rest behind front below in
        record { left = n; all = omega (arith, all); same = (λ h. others.0 (same.0 h), λ h. same.1 (others.1 h)) }

pub left_done : (order : Endianness) (limit : ℕ) (types rest : List ℕ) (read : ℕ) → Left order limit types rest read → hint_records ≤ read → NamesBeyond order limit hint_records types → ⊥
left_done order limit types rest read l done h = ends l.left (omega (arith, l.all, done)) (l.same.0 h)
  where
    ends : (n : ℕ) → n ≡ 0 → NamesBeyond order limit n rest → ⊥
    ends zero is h = h
    ends (suc n) is h = absurd (omega (arith, is))
