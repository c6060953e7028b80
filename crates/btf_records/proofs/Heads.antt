-- Reading a record after its head, and writing a record.
use Rattle.std.proofs.Common.{inl, ◌≡◌, ℕ, ◌+◌, ◌^◌, ◌<◌, List, drop, length, Some, None, Result, Ok, Err, refl, sym, ap, subst, ◌∙◌, arith}
use Rattle.std.specs.Prelude.{IsErrAnd, OnOk, slice_get}
use Rattle.std.specs.List.{AllByRecursion}
use Rattle.std.proofs.lemmas.List.{length-drop}
use Rattle.std.proofs.lemmas.Option.{IfSome_then}
use Rattle.std.proofs.lemmas.Result.{err_from_is_err_and}
use Rattle.btf_model.specs.Word.{words_at}
use Rattle.btf_model.specs.declared.endianness.Endianness.{Endianness}
use Rattle.btf_model.specs.Record.{Kind, Unknown, Record, kinds, unknown, words, kind_number, kind_of, vlen, tail_words}
use Rattle.btf_model.specs.Refusal as refusals
use Rattle.btf_model.specs.Spelling.{kept, IsWhole}
use Rattle.btf_model.specs.Blob.{ReadsFront}
use Rattle.btf_model.proofs.Words.{IsBytes}
use Rattle.btf_model.proofs.Reading.{reads, reads_other_kind, reads_cut, record_at}
use Rattle.btf_plain.specs.declared.error.BtfError.{BtfError}
use Rattle.btf_plain.specs.declared.error.BtfError.TheVariants.{InvalidTypeKind}
use Rattle.btf_plain.specs.Kind.{kind}
use Rattle.btf_plain.specs.Error.{refusal_of}
use Rattle.btf_records.specs.declared.btf_type.BtfType.{BtfType}
use Rattle.btf_plain.specs.declared.head.Head.{Head}
use Rattle.btf_plain.specs.Head.{IsHead, record_after, ReadsTail}
use Rattle.btf_records.specs.Slot.{Puts, StaysOr}

after_is : (order : Endianness) (bytes : List ℕ) (head : Head) (rest : List ℕ) (n : ℕ) → IsHead order bytes head rest → record_at order n bytes ≡ record_after order head n rest
after_is order bytes head rest n h = λ i. record { name = sym h.name i; info = sym h.info i; third = sym h.third i; tail = words_at order n (sym h.behind i) }

length-behind : (order : Endianness) (bytes : List ℕ) (head : Head) (rest : List ℕ) → IsHead order bytes head rest → length bytes ≡ 12 + length rest
length-behind order bytes head rest h =
    omega (arith, h.long, ap length h.behind, length-drop 4 (drop 4 (drop 4 bytes)), length-drop 4 (drop 4 bytes), length-drop 4 bytes)

-- a record that was put in a slot is read from the front of the bytes
pub front_put : {P : Type 0} (HasPut : P → BtfType → P → Type 0) (Stays : P → P → Type 0) (old new : P) (order : Endianness) (bytes : List ℕ) (head : Head) (rest : List ℕ) (k : Kind) (r : Result ℕ BtfError) → IsBytes bytes → IsHead order bytes head rest → kind_of head.info ≡ Some k → Puts HasPut Stays old new (ReadsTail order head k rest) r → Puts HasPut Stays old new (ReadsFront order bytes) r
front_put HasPut Stays old new order bytes head rest k (Ok size) fits h kind given =
    let t = given.0 in
    let n = tail_words k (vlen head.info) in
    let found = reads order bytes k n fits (omega (arith, given.2.0, length-behind order bytes head rest h)) (ap kind_of (sym h.info) ∙ kind) (ap (λ (i : ℕ). tail_words k (vlen i)) h.info) in
    (t, given.1, subst (λ (q : Record). ReadsFront order bytes (Ok q)) (ap (kept k) (after_is order bytes head rest n h) ∙ sym given.2.1) found, given.3, given.4)
front_put HasPut Stays old new order bytes head rest k (Err e) fits h kind given = (
  given.0,
  IfSome_then (refusal_of e) given.1 (λ f q.
      subst (λ (x : refusals.Refusal). ReadsFront order bytes (Err x)) (sym q.1)
      (reads_cut order bytes k h.long (ap kind_of (sym h.info) ∙ kind) (omega (arith, q.0, length-behind order bytes head rest h, ap (λ (i : ℕ). tail_words k (vlen i)) h.info)))),
)

-- a kind that does not exist
pub kind_refused : {P : Type 0} (HasPut : P → BtfType → P → Type 0) (HasKept : P → P → Type 0) (place : P) (order : Endianness) (bytes : List ℕ) (head : Head) (rest : List ℕ) (number : ℕ) (r : Result ℕ BtfError) (e : BtfError) → IsErrAnd r (λ y. y ≡ e) → slice_get kinds number ≡ None → e ≡ InvalidTypeKind number → number ≡ kind_number head.info → IsHead order bytes head rest → Puts HasPut (StaysOr HasKept) place place (ReadsFront order bytes) r
kind_refused HasPut HasKept place order bytes head rest number r e err none is number-is h =
    let p = err_from_is_err_and r err in
    let no_kind : kind_of head.info ≡ None = ap (slice_get kinds) (sym number-is) ∙ none in
    let found = reads_other_kind order bytes h.long (ap kind_of (sym h.info) ∙ no_kind) in
    let same : InvalidTypeKind (kind_number head.info) ≡ e = ap (λ (n : ℕ). InvalidTypeKind n) (sym number-is) ∙ sym is in
    let reported : ReadsFront order bytes (Err (refusals.InvalidTypeKind (kind_number head.info))) = subst (λ (i : ℕ). ReadsFront order bytes (Err (refusals.InvalidTypeKind (kind_number i)))) (sym h.info) found in
    subst (λ (x : Result ℕ BtfError). Puts HasPut (StaysOr HasKept) place place (ReadsFront order bytes) x) (sym (p.1 ∙ ap (λ (x : BtfError). Err x) (p.2 ∙ sym same))) (inl refl, reported)

-- ---- what is written

-- the words of a record that reading retains whole, for the kinds that have no list
pub whole : (k : Kind) (r : Record) → kind_of r.info ≡ Some k → length r.tail ≡ tail_words k (vlen r.info) → AllByRecursion (λ w. w < 2 ^ 32) (words r) → kept k r ≡ r → IsWhole r
whole k r kind tail fits stays = (k, record { kind = kind; tail = tail; words = fits }, stays)

pub unknown_is_whole : IsWhole unknown
unknown_is_whole = whole Unknown unknown refl refl (omega arith, (omega arith, (omega arith, tt))) refl

pub always : {T E P : Type 0} (r : Result T E) → P → OnOk r P
always (Ok x) p = p
always (Err e) p = tt
