-- Reading the records of a section one by one.
use Rattle.std.proofs.Common.{◌≡◌, ℕ, zero, suc, ◌+◌, ◌*◌, ◌<◌, ◌≤◌, List, [], ◌∷◌, ◌++◌, length, drop, sym, ap, ◌∙◌, append_assoc, arith}
use Rattle.std.specs.Prelude.{map}
use Rattle.std.proofs.lemmas.List.{append-nil, map-append, length-drop}
use Rattle.btf_model.specs.Word.{words_at}
use Rattle.btf_model.specs.declared.endianness.Endianness.{Endianness}
use Rattle.btf_model.specs.Ext.{record_words}

-- the records so far, and the remaining number of records from the rest, are all the records
pub record RecordsSoFar {X : Type 0} (words : X → List ℕ) (read_as : List ℕ → List ℕ) (order : Endianness) (size width count : ℕ) (bytes : List ℕ) (done : ℕ) (items : List X) (rest : List ℕ) : Type 0 where
  pub todo : ℕ
  pub sum : done + todo ≡ count
  pub left : length rest ≡ size * todo
  pub records : map words items ++ map read_as (record_words order size width todo rest) ≡ map read_as (record_words order size width count bytes)

-- before the first record
pub no_records_yet : {X : Type 0} (words : X → List ℕ) (read_as : List ℕ → List ℕ) (order : Endianness) (size width count : ℕ) (bytes : List ℕ) (items : List X) → items ≡ [] → length bytes ≡ size * count → RecordsSoFar words read_as order size width count bytes 0 items bytes
no_records_yet words read_as order size width count bytes items none len = record {
  todo = count;
  sum = omega arith;
  left = len;
  records = ap (λ xs. map words xs ++ map read_as (record_words order size width count bytes)) none;
}

-- a record is within the rest
pub record_lies_in_rest : {X : Type 0} (words : X → List ℕ) (read_as : List ℕ → List ℕ) (order : Endianness) (size width count : ℕ) (bytes : List ℕ) (done : ℕ) (items : List X) (rest : List ℕ) → RecordsSoFar words read_as order size width count bytes done items rest → done < count → size ≤ length rest
record_lies_in_rest words read_as order size width count bytes done items rest h lt = within h.todo h.sum h.left
  where
    within : (todo : ℕ) → done + todo ≡ count → length rest ≡ size * todo → size ≤ length rest
    within zero sum left = absurd (omega (arith, sum, lt))
    within (suc n) sum left = omega (arith, left)

-- one more record
pub one_more_record : {X : Type 0} (words : X → List ℕ) (read_as : List ℕ → List ℕ) (order : Endianness) (size width count : ℕ) (bytes : List ℕ) (done : ℕ) (items more : List X) (rest next : List ℕ) (x : X) → RecordsSoFar words read_as order size width count bytes done items rest → done < count → words x ≡ read_as (words_at order width rest) → more ≡ items ++ x ∷ [] → next ≡ drop size rest → RecordsSoFar words read_as order size width count bytes (done + 1) more next
one_more_record words read_as order size width count bytes done items more rest next x h lt x-is more-is next-is = step h.todo h.sum h.left h.records
  where
    step : (todo : ℕ) → done + todo ≡ count → length rest ≡ size * todo → map words items ++ map read_as (record_words order size width todo rest) ≡ map read_as (record_words order size width count bytes) → RecordsSoFar words read_as order size width count bytes (done + 1) more next
    step zero sum left records = absurd (omega (arith, sum, lt))
    step (suc n) sum left records = record {
      todo = n;
      sum = omega (arith, sum);
      left = ap length next-is ∙ length-drop size rest ∙ omega (arith, left);
      records =
          ap (λ xs. map words xs ++ map read_as (record_words order size width n next)) more-is
          ∙ ap (λ (xs : List (List ℕ)). xs ++ map read_as (record_words order size width n next)) (map-append words items (x ∷ []))
          ∙ append_assoc (map words items) (words x ∷ []) (map read_as (record_words order size width n next))
          ∙ ap (λ (w : List ℕ). map words items ++ (w ∷ map read_as (record_words order size width n next))) x-is
          ∙ ap (λ (b : List ℕ). map words items ++ (read_as (words_at order width rest) ∷ map read_as (record_words order size width n b))) next-is
          ∙ records;
    }

-- all are read
pub all_records : {X : Type 0} (words : X → List ℕ) (read_as : List ℕ → List ℕ) (order : Endianness) (size width count : ℕ) (bytes : List ℕ) (done : ℕ) (items : List X) (rest : List ℕ) → RecordsSoFar words read_as order size width count bytes done items rest → count ≤ done → map words items ≡ map read_as (record_words order size width count bytes)
all_records words read_as order size width count bytes done items rest h le = end h.todo h.sum h.records
  where
    end : (todo : ℕ) → done + todo ≡ count → map words items ++ map read_as (record_words order size width todo rest) ≡ map read_as (record_words order size width count bytes) → map words items ≡ map read_as (record_words order size width count bytes)
    end zero sum records = sym (append-nil (map words items)) ∙ records
    end (suc n) sum records = absurd (omega (arith, sum, le))
