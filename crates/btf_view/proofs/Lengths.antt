-- The length of the record that bytes begin with.
use Rattle.std.proofs.Common.{◌≡◌, ℕ, suc, ◌+◌, ◌*◌, ◌<◌, ◌≤◌, List, length, take, drop, Some, None, Result, Ok, Err, refl, sym, ap, subst, ◌∙◌, arith}
use Rattle.std.specs.Prelude.{IsErrAnd, slice_get}
use Rattle.std.proofs.lemmas.Result.{err_from_is_err_and}
use Rattle.btf_model.specs.declared.endianness.Endianness.{Endianness}
use Rattle.btf_model.specs.Record.{Kind, Record, kinds, kind_number, kind_of, vlen, tail_words}
use Rattle.btf_model.specs.Refusal as refusals
use Rattle.btf_model.specs.Spelling.{kept, HasKind, IsRecord}
use Rattle.btf_model.proofs.Words.{IsBytes, length-words_at, spelled-words_at, words_at_fit}
use Rattle.btf_model.proofs.Reading.{reads_other_kind, reads_cut, record_at, info_at}
use Rattle.btf_plain.specs.declared.error.BtfError.{BtfError}
use Rattle.btf_plain.specs.declared.error.BtfError.TheVariants.{InvalidTypeKind, InvalidTypeInfo}
use Rattle.btf_plain.specs.declared.head.Head.{Head}
use Rattle.btf_plain.specs.Head.{IsHead}
use Rattle.btf_view.specs.Index.{HasLength}

-- a kind that the library does not read
pub kind_refused : (order : Endianness) (bytes : List ℕ) (head : Head) (rest : List ℕ) (number : ℕ) (r : Result ℕ BtfError) (e : BtfError) → IsErrAnd r (λ y. y ≡ e) → slice_get kinds number ≡ None → e ≡ InvalidTypeKind number → number ≡ kind_number head.info → IsHead order bytes head rest → HasLength order bytes r
kind_refused order bytes head rest number r e err none is number-is h =
    let p = err_from_is_err_and r err in
    let info-is : number ≡ kind_number (info_at order bytes) = number-is ∙ ap kind_number h.info in
    let found = reads_other_kind order bytes h.long (ap (slice_get kinds) (sym info-is) ∙ none) in
    let same : InvalidTypeKind (kind_number (info_at order bytes)) ≡ p.0 = ap (λ (n : ℕ). InvalidTypeKind n) (sym info-is) ∙ sym is ∙ sym p.2 in
    subst (λ (x : Result ℕ BtfError). HasLength order bytes x) (sym (p.1 ∙ ap (λ (x : BtfError). Err x) (sym same))) (refusals.InvalidTypeKind (kind_number (info_at order bytes)), refl, found)

-- a truncated tail
pub tail_cut : (order : Endianness) (bytes : List ℕ) (head : Head) (rest : List ℕ) (k : Kind) (n : ℕ) → IsHead order bytes head rest → kind_of head.info ≡ Some k → n ≡ tail_words k (vlen head.info) → length bytes < 12 + 4 * n → HasLength order bytes (Err InvalidTypeInfo)
tail_cut order bytes head rest k n h kind tail lt =
    let tail' : n ≡ tail_words k (vlen (info_at order bytes)) = tail ∙ ap (λ (i : ℕ). tail_words k (vlen i)) h.info in
    (refusals.InvalidTypeInfo, refl, reads_cut order bytes k h.long (ap kind_of (sym h.info) ∙ kind) (omega (arith, lt, tail')))

-- a whole record
pub whole : (order : Endianness) (bytes : List ℕ) (head : Head) (rest : List ℕ) (k : Kind) (n : ℕ) → IsBytes bytes → IsHead order bytes head rest → kind_of head.info ≡ Some k → n ≡ tail_words k (vlen head.info) → 12 + 4 * n ≤ length bytes → HasLength order bytes (Ok (12 + 4 * n))
whole order bytes head rest k n fits h kind tail le =
    let info : info_at order bytes ≡ head.info = sym h.info in
    let len : 4 * suc (suc (suc n)) ≡ 12 + 4 * n = omega arith in
    let all : 4 * suc (suc (suc n)) ≤ length bytes = omega (arith, le) in
    let w : Record = record_at order n bytes in
    let has : HasKind k w = record {
      kind = ap kind_of info ∙ kind;
      tail = length-words_at order n (drop 4 (drop 4 (drop 4 bytes))) ∙ tail ∙ ap (λ (i : ℕ). tail_words k (vlen i)) (sym info);
      words = words_at_fit order (suc (suc (suc n))) bytes fits;
    } in
    let spelled : IsRecord order (take (4 * suc (suc (suc n))) bytes) (kept k w) = (k, w, has, sym (spelled-words_at order (suc (suc (suc n))) bytes fits all), refl) in
    (omega arith, le, kept k w, subst (λ (m : ℕ). IsRecord order (take m bytes) (kept k w)) len spelled)
