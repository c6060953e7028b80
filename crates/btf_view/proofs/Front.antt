-- The record that bytes begin with, by their first words.
use Rattle.std.proofs.Common.{◌≡◌, ℕ, suc, ◌+◌, ◌*◌, ◌≤◌, List, ◌∷◌, ◌++◌, length, Some, Ok, refl, sym, ap, ◌∙◌, arith}
use Rattle.std.proofs.lemmas.List.{length-append}
use Rattle.btf_model.specs.Word.{words_at}
use Rattle.btf_model.specs.declared.endianness.Endianness.{Endianness}
use Rattle.btf_model.specs.Record.{Kind, Record, kind_of, vlen, tail_words, words, unknown}
use Rattle.btf_model.specs.Spelling.{spell, kept, IsRecord}
use Rattle.btf_model.specs.Blob.{ReadsFront}
use Rattle.btf_model.proofs.Words.{words_at-spelled}
use Rattle.btf_model.proofs.Records.{length-spell}
use Rattle.btf_model.proofs.Reading.{record_at, info_at}
use Rattle.btf_plain.specs.declared.head.Head.{Head}
use Rattle.btf_plain.specs.Head.{IsHead}

-- the record of a list of words
from_words : List ℕ → Record
from_words (a ∷ b ∷ c ∷ tail) = record { name = a; info = b; third = c; tail = tail }
from_words ws = unknown

from_words-words : (r : Record) → from_words (words r) ≡ r
unfolding from_words
from_words-words r = refl

-- the first words of the bytes are those of a record of this kind, of which reading retains r
pub record Begins (order : Endianness) (bytes : List ℕ) (r : Record) : Type 0 where
  pub kind : Kind
  pub has : kind_of (info_at order bytes) ≡ Some kind
  pub long : 12 + 4 * tail_words kind (vlen (info_at order bytes)) ≤ length bytes
  pub is : r ≡ kept kind (record_at order (tail_words kind (vlen (info_at order bytes))) bytes)

-- the words of a spelling at the front
spelled : (order : Endianness) (bytes rest : List ℕ) (w : Record) (n : ℕ) → length w.tail ≡ n → words_at order (length (words w)) (spell order w ++ rest) ≡ words w → bytes ≡ spell order w ++ rest → record_at order n bytes ≡ w
unfolding from_words
spelled order bytes rest w n len read whole =
    let all : words_at order (suc (suc (suc n))) bytes ≡ words w = ap (λ (k : ℕ). words_at order (suc (suc (suc k))) bytes) (sym len) ∙ ap (words_at order (length (words w))) whole ∙ read in
    ap from_words all ∙ from_words-words w

pub begins : (order : Endianness) (bytes : List ℕ) (r : Record) → ReadsFront order bytes (Ok r) → Begins order bytes r
begins order bytes r p =
    let q : IsRecord order p.0 r = p.3 in
    let w = q.1 in
    let whole : bytes ≡ spell order w ++ p.1 = p.2 ∙ ap (λ t. t ++ p.1) q.3 in
    let read = words_at-spelled order (words w) p.1 q.2.words in
    let same : record_at order (length w.tail) bytes ≡ w = spelled order bytes p.1 w (length w.tail) refl read whole in
    let info : info_at order bytes ≡ w.info = ap (λ (x : Record). x.info) same in
    let tail : length w.tail ≡ tail_words q.0 (vlen (info_at order bytes)) = q.2.tail ∙ ap (λ (i : ℕ). tail_words q.0 (vlen i)) (sym info) in
    record {
      kind = q.0;
      has = ap kind_of info ∙ q.2.kind;
      long = omega (arith, ap length whole, length-append (spell order w) p.1, length-spell order w, tail);
      is = q.4 ∙ ap (kept q.0) (sym same ∙ ap (λ (n : ℕ). record_at order n bytes) tail);
    }

-- ---- heads

-- a head and the words after it
pub after_head : (order : Endianness) (bytes : List ℕ) (head : Head) (rest : List ℕ) (n : ℕ) → IsHead order bytes head rest → record_at order n bytes ≡ record { name = head.name; info = head.info; third = head.third; tail = words_at order n rest }
after_head order bytes head rest n h = λ i. record { name = sym h.name i; info = sym h.info i; third = sym h.third i; tail = words_at order n (sym h.behind i) }
