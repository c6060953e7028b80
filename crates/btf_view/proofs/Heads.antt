-- The head of the record at a place.
use Rattle.std.proofs.Common.{◌≡◌, ◌⊎◌, ℕ, ◌+◌, ◌<◌, ◌≤◌, List, [], length, take, drop, Some, refl, sym, ap, subst, ◌∙◌, arith, inl, inr}
use Rattle.std.proofs.lemmas.List.{length-drop, drop-drop}
use Rattle.btf_model.specs.declared.endianness.Endianness.{Endianness}
use Rattle.btf_model.specs.Record.{Kind, Struct, Union, Unknown, Record, kind_of, vlen, tail_words, unknown}
use Rattle.btf_model.specs.Word.{word_of, words_at}
use Rattle.btf_model.specs.Blob.{word_at}
use Rattle.btf_model.specs.Spelling.{kept}
use Rattle.btf_model.proofs.Reading.{info_at}
use Rattle.btf_plain.specs.declared.head.Head.{Head}
use Rattle.btf_plain.specs.Head.{IsHead, headed}
use Rattle.btf_view.specs.Places.{IsRecordAt}
use Rattle.btf_view.specs.Record.{HasHead, IsReadAs}
use Rattle.btf_view.proofs.Front.{begins, after_head}

-- a place at which no head fits is past the section
pub nothing_there : (order : Endianness) (types : List ℕ) (place : ℕ) (r : Record) → length (drop place types) < 12 → IsRecordAt order types place r → r ≡ unknown
nothing_there order types place r lt (inl read) = absurd (omega (arith, (begins order (drop place types) r read).long, lt))
nothing_there order types place r lt (inr past) = past.1

-- the head at a place is that of the record there
pub head_there : (order : Endianness) (types : List ℕ) (place : ℕ) (r : Record) (head : Head) (rest : List ℕ) → IsHead order (drop place types) head rest → IsRecordAt order types place r → IsReadAs head r
head_there order types place r head rest h (inl read) =
    let b = begins order (drop place types) r read in
    let n = tail_words b.kind (vlen (info_at order (drop place types))) in
    record {
      kind = b.kind;
      tail = words_at order n rest;
      has = ap kind_of h.info ∙ b.has;
      is = b.is ∙ ap (kept b.kind) (after_head order (drop place types) head rest n h);
    }
head_there order types place r head rest h (inr past) = absurd (omega (arith, h.long, length-drop place types, past.0))

-- no words are those of Unknown
pub nothing_read : (r : Record) → r ≡ unknown → IsReadAs (record { name = 0; info = 0; third = 0 }) r
nothing_read r is = record { kind = Unknown; tail = []; has = refl; is = is }

-- what reading retains of the head is the head of the record
pub retained : (raw head : Head) (r : Record) → IsReadAs raw r → ((k : Kind) (tail : List ℕ) → kind_of raw.info ≡ Some k → HasHead head (kept k (headed raw tail))) → HasHead head r
retained raw head r read retains = subst (HasHead head) (sym read.is) (retains read.kind read.tail read.has)

-- reading retains the info word of a STRUCT or UNION
pub read_info : (head : Head) (r : Record) (h : IsReadAs head r) → (h.kind ≡ Struct) ⊎ (h.kind ≡ Union) → head.info ≡ r.info
read_info head r h (inl struct) = sym (ap (λ (x : Record). x.info) h.is ∙ ap (λ (k : Kind). (kept k (headed head h.tail)).info) struct)
read_info head r h (inr union) = sym (ap (λ (x : Record). x.info) h.is ∙ ap (λ (k : Kind). (kept k (headed head h.tail)).info) union)

-- the three words at a place
pub head_in : (order : Endianness) (types : List ℕ) (place a b c : ℕ) → a ≡ word_at order place types → b ≡ word_at order (place + 4) types → c ≡ word_at order (place + 8) types → place + 12 ≤ length types → IsHead order (drop place types) (record { name = a; info = b; third = c }) (drop 4 (drop 4 (drop 4 (drop place types))))
head_in order types place a b c a-is b-is c-is le =
    let second : drop (place + 4) types ≡ drop 4 (drop place types) = sym (drop-drop 4 place types) in
    let third : drop (place + 8) types ≡ drop 4 (drop 4 (drop place types)) =
    ap (λ (n : ℕ). drop n types) (let e : place + 8 ≡ place + 4 + 4 = omega arith in e) ∙ sym (drop-drop 4 (place + 4) types) ∙ ap (drop 4) second in
    record {
      long = omega (arith, length-drop place types, le);
      name = a-is;
      info = b-is ∙ ap (λ (x : List ℕ). word_of order (take 4 x)) second;
      third = c-is ∙ ap (λ (x : List ℕ). word_of order (take 4 x)) third;
      behind = refl;
    }
