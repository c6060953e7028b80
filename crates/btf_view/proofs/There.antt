-- The record at a place of a type section, as its words give it.
use Rattle.std.proofs.Common.{◌≡◌, ◌∙◌, ℕ, ◌+◌, List, [], ◌∷◌, length, drop, take, Option, Some, Ok, refl, sym, ap, subst, arith, inl, inr}
use Rattle.std.proofs.lemmas.List.{drop-drop, length-drop, nil_from_length}
use Rattle.std.proofs.lemmas.Option.{same_Some}
use Rattle.btf_model.specs.declared.endianness.Endianness.{Endianness}
use Rattle.btf_model.specs.Record.{Kind, Unknown, Array, Fwd, Var, Record, kind_of, vlen, tail_words, unknown}
use Rattle.btf_model.specs.Blob.{ReadsFront}
use Rattle.btf_model.specs.Spelling.{kept}
use Rattle.btf_model.specs.Word.{word_of, words_at}
use Rattle.btf_model.proofs.Reading.{record_at, info_at}
use Rattle.btf_plain.specs.Head.{headed}
use Rattle.btf_plain.specs.declared.head.Head.{Head}
use Rattle.btf_view.specs.Places.{IsRecordAt, ArePlaces}
use Rattle.btf_view.specs.Record.{HasHead}
use Rattle.btf_view.specs.Words.{front_record, head_before, kept_words, read_by, record_before, records_there}
use Rattle.btf_view.proofs.Front.{begins}
use Rattle.btf_view.proofs.Words.{kept_parts}

-- reading retains the kind
kind_kept : (k : Kind) (w : Record) → kind_of w.info ≡ Some k → kind_of (kept k w).info ≡ Some k
kind_kept Unknown w is = refl
kind_kept k w is = is

-- the parts of a record, by its head
parts : (r : Record) (head : Head) (j k : Kind) (order : Endianness) (xs ys : List ℕ) → HasHead head r → j ≡ k → xs ≡ ys → record { name = r.name; info = r.info; third = r.third; tail = kept_words j (words_at order (tail_words j (vlen r.info)) xs) } ≡ record_before k order head ys
parts r head j k order xs ys has same behind =
    λ i. record { name = sym has.name i; info = sym has.info i; third = sym has.third i; tail = kept_words (same i) (words_at order (tail_words (same i) (vlen (sym has.info i))) (behind i)) }

-- the record at a place, by its head and the bytes after it
pub words_there : (order : Endianness) (types : List ℕ) (place : ℕ) (r : Record) (head : Head) (k : Kind) → IsRecordAt order types place r → HasHead head r → kind_of head.info ≡ Some k → r ≡ record_before k order head (drop (place + 12) types)
words_there order types place r head k (inl read) has kind =
    let bytes = drop place types in
    let b = begins order bytes r read in
    let raw = record_at order (tail_words b.kind (vlen (info_at order bytes))) bytes in
    let after = drop 4 (drop 4 (drop 4 bytes)) in
    let behind : after ≡ drop (place + 12) types = drop-drop 4 4 (drop 4 bytes) ∙ drop-drop (4 + 4) 4 bytes ∙ drop-drop (4 + (4 + 4)) place types in
    let own : kind_of r.info ≡ Some b.kind = ap (λ (x : Record). kind_of x.info) b.is ∙ kind_kept b.kind raw b.has in
    let same : b.kind ≡ k = same_Some b.kind k (sym own ∙ ap kind_of (sym has.info) ∙ kind) in
    kept_parts b.kind order raw after r b.is refl ∙ parts r head b.kind k order after (drop (place + 12) types) has same behind
words_there order types place r head k (inr past) has kind =
    let bytes = drop (place + 12) types in
    let none : r ≡ record { name = r.name; info = r.info; third = r.third; tail = kept_words Unknown (words_at order (tail_words Unknown (vlen r.info)) bytes) } =
    subst (λ (x : Record). x ≡ record { name = x.name; info = x.info; third = x.third; tail = kept_words Unknown (words_at order (tail_words Unknown (vlen x.info)) bytes) }) (sym past.1) refl in
    let same : Unknown ≡ k = same_Some Unknown k (ap (λ (x : Record). kind_of x.info) (sym past.1) ∙ ap kind_of (sym has.info) ∙ kind) in
    none ∙ parts r head Unknown k order bytes bytes has same refl

-- ---- the record at a place, by the bytes

-- the record that bytes begin with is the one at their front
front_is : (order : Endianness) (bytes : List ℕ) (r : Record) → ReadsFront order bytes (Ok r) → r ≡ front_record order bytes
front_is order [] r read = absurd (omega (arith, (begins order [] r read).long))
front_is order (byte ∷ rest) r read =
    let bytes = byte ∷ rest in
    let b = begins order bytes r read in
    let n = tail_words b.kind (vlen (info_at order bytes)) in
    let third : drop 4 (drop 4 bytes) ≡ drop 8 bytes = drop-drop 4 4 bytes in
    let after : drop 4 (drop 4 (drop 4 bytes)) ≡ drop 12 bytes = drop-drop 4 4 (drop 4 bytes) ∙ drop-drop (4 + 4) 4 bytes in
    let raw : record_at order n bytes ≡ headed (head_before order bytes) (words_at order n (drop 12 bytes)) =
    λ i. record { name = word_of order (take 4 bytes); info = info_at order bytes; third = word_of order (take 4 (third i)); tail = words_at order n (after i) } in
    b.is ∙ ap (kept b.kind) raw ∙ ap (λ (k : Option Kind). read_by k order bytes) (sym b.has)

-- the record at a place is the one at the front of what is left there
pub there : (order : Endianness) (types : List ℕ) (place : ℕ) (r : Record) → IsRecordAt order types place r → r ≡ front_record order (drop place types)
there order types place r (inl read) = front_is order (drop place types) r read
there order types place r (inr past) = past.1 ∙ ap (front_record order) (sym (nil_from_length (drop place types) (omega (arith, past.0, length-drop place types))))

-- the records at places
pub all_there : (order : Endianness) (types places : List ℕ) (rs : List Record) → ArePlaces order types places rs → rs ≡ records_there order types places
all_there order types [] [] h = refl
all_there order types (p ∷ ps) (r ∷ rs) h = λ i. there order types p r h.0 i ∷ all_there order types ps rs h.1 i
all_there order types [] (r ∷ rs) h = absurd h
all_there order types (p ∷ ps) [] h = absurd h
