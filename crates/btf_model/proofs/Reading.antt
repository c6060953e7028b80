-- Reading one record from the front of bytes.
use Rattle.std.proofs.Common.{◌≡◌, ℕ, suc, ◌+◌, ◌*◌, ◌<◌, ◌≤◌, List, [], ◌∷◌, ◌++◌, length, take, drop, Some, None, Ok, Err, refl, sym, ap, ◌∙◌, arith, inl, inr}
use Rattle.std.proofs.lemmas.Bool.{le-ltb, lt-ltb}
use Rattle.std.proofs.lemmas.List.{length-append, take-append-drop}
use Rattle.std.proofs.lemmas.Option.{slice_get_cases, slice_get_within}
use Rattle.btf_model.specs.Word.{word_of, words_at}
use Rattle.btf_model.specs.declared.endianness.Endianness.{Endianness}
use Rattle.btf_model.specs.Record.{Kind, kinds, highest_kind, Record, kind_number, kind_of, vlen, tail_words, words}
use Rattle.btf_model.specs.Refusal.{InvalidTypeInfo, InvalidTypeKind}
use Rattle.btf_model.specs.Spelling.{spell, kept, IsRecord}
use Rattle.btf_model.specs.Blob.{ReadsFront}
use Rattle.btf_model.proofs.Words.{IsBytes, length-words_at, words_at-front, spelled-words_at, words_at_fit}
use Rattle.btf_model.proofs.Records.{length-spell, spelling_is_long}

-- the record of the first words of the bytes, with a tail of n words
abbrev pub record_at : Endianness → ℕ → List ℕ → Record
record_at order n bytes = record {
  name = word_of order (take 4 bytes);
  info = word_of order (take 4 (drop 4 bytes));
  third = word_of order (take 4 (drop 4 (drop 4 bytes)));
  tail = words_at order n (drop 4 (drop 4 (drop 4 bytes)));
}

-- the info word at the front of the bytes
abbrev pub info_at : Endianness → List ℕ → ℕ
info_at order bytes = word_of order (take 4 (drop 4 bytes))

-- a kind that the library reads has a number up to the highest, and no other number has a kind
pub kind_some : (info : ℕ) (k : Kind) → kind_of info ≡ Some k → kind_number info ≤ highest_kind
kind_some info k e = omega (arith, slice_get_within (take (highest_kind + 1) kinds) (kind_number info) k e)

pub kind_none : (info : ℕ) → kind_of info ≡ None → highest_kind < kind_number info
kind_none info e =
    elim ((slice_get_cases (take (highest_kind + 1) kinds) (kind_number info)).1) [
      | inl p ↦ absurd (different p.0 (sym p.2 ∙ e))
      | inr p ↦ omega (arith, p.0)
    ]
  where
    different : (k : Kind) → Some k ≡ None → ⊥
    different k h = cc

-- if the words at the front are complete, they are the record
pub reads : (order : Endianness) (bytes : List ℕ) (k : Kind) (n : ℕ) → IsBytes bytes → 12 + 4 * n ≤ length bytes → kind_of (info_at order bytes) ≡ Some k → n ≡ tail_words k (vlen (info_at order bytes)) → ReadsFront order bytes (Ok (kept k (record_at order n bytes)))
reads order bytes k n fits long kind tail =
    let le : 4 * suc (suc (suc n)) ≤ length bytes = omega arith in (
      take (4 * suc (suc (suc n))) bytes,
      drop (4 * suc (suc (suc n))) bytes,
      sym (take-append-drop (4 * suc (suc (suc n))) bytes),
      (
        k,
        record_at order n bytes,
        record {
          kind = kind;
          tail = length-words_at order n (drop 4 (drop 4 (drop 4 bytes))) ∙ tail;
          words = words_at_fit order (suc (suc (suc n))) bytes fits;
        },
        sym (spelled-words_at order (suc (suc (suc n))) bytes fits le),
        refl,
      ),
    )

-- a spelling at the front of the bytes has the info word of the bytes
info_of_front : (order : Endianness) (bytes front rest : List ℕ) (r : Record) (p : IsRecord order front r) → bytes ≡ front ++ rest → p.1.info ≡ info_at order bytes
info_of_front order bytes front rest r p e =
    let whole : bytes ≡ spell order p.1 ++ rest = e ∙ ap (λ t. t ++ rest) p.3 in
    let first : words_at order 2 bytes ≡ p.1.name ∷ p.1.info ∷ [] = ap (words_at order 2) whole ∙ words_at-front order 2 (words p.1) rest p.2.words (omega arith) in
    second _ _ _ _ (sym first)
  where
    second : (a b c d : ℕ) → a ∷ b ∷ [] ≡ c ∷ d ∷ [] → b ≡ d
    second a b c d h = cc

long_front : (bytes front rest : List ℕ) → bytes ≡ front ++ rest → length front ≤ length bytes
long_front bytes front rest e = omega (arith, ap length e, length-append front rest)

-- fewer than three words
pub reads_short : (order : Endianness) (bytes : List ℕ) → length bytes < 12 → ReadsFront order bytes (Err InvalidTypeInfo)
reads_short order bytes lt =
    (λ front rest r e p. omega (arith, spelling_is_long order front r p, long_front bytes front rest e), rw (lt-ltb (length bytes) 12 lt) refl)

-- a kind that the library does not read
pub reads_other_kind : (order : Endianness) (bytes : List ℕ) → 12 ≤ length bytes → kind_of (info_at order bytes) ≡ None → ReadsFront order bytes (Err (InvalidTypeKind (kind_number (info_at order bytes))))
reads_other_kind order bytes le none = (
  λ front rest r e p. different p.0 (sym p.2.kind ∙ ap kind_of (info_of_front order bytes front rest r p e) ∙ none),
  rw (le-ltb (length bytes) 12 le, lt-ltb highest_kind (kind_number (info_at order bytes)) (kind_none (info_at order bytes) none)) refl,
)
  where
    different : (k : Kind) → Some k ≡ None → ⊥
    different k h = cc

-- a truncated tail
pub reads_cut : (order : Endianness) (bytes : List ℕ) (k : Kind) → 12 ≤ length bytes → kind_of (info_at order bytes) ≡ Some k → length bytes < 12 + 4 * tail_words k (vlen (info_at order bytes)) → ReadsFront order bytes (Err InvalidTypeInfo)
reads_cut order bytes k le kind lt = (
  λ front rest r e p.
      let info = info_of_front order bytes front rest r p e in
      let same : p.0 ≡ k = one p.0 k (sym p.2.kind ∙ ap kind_of info ∙ kind) in
      let tail : length p.1.tail ≡ tail_words k (vlen (info_at order bytes)) = p.2.tail ∙ ap (λ (j : Kind). tail_words j (vlen p.1.info)) same ∙ ap (λ (i : ℕ). tail_words k (vlen i)) info in
      omega (arith, long_front bytes front rest e, ap length p.3, length-spell order p.1, tail),
  rw (le-ltb (length bytes) 12 le, le-ltb highest_kind (kind_number (info_at order bytes)) (kind_some (info_at order bytes) k kind)) refl,
)
  where
    one : (k l : Kind) → Some k ≡ Some l → k ≡ l
    one k l h = cc
