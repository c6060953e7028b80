-- Sections of `.BTF.ext`: bytes determine the sections that they begin with, and when they begin with none.
use Rattle.std.proofs.Common.{◌≡◌, ℕ, zero, suc, ◌+◌, ◌*◌, ◌^◌, ◌<◌, ◌≤◌, List, [], ◌∷◌, ◌++◌, length, take, drop, refl, sym, ap, ◌∙◌, append_assoc, arith}
use Rattle.std.specs.Prelude.{◌⊎◌}
use Rattle.std.specs.List.{flat_map, AllByRecursion}
use Rattle.std.proofs.Common.{inl, inr}
use Rattle.std.proofs.lemmas.List.{length-append, length-take, length-drop, append_cancel_left, append-nil, take_at, drop_at, take-append-drop}
use Rattle.std.proofs.lemmas.List.Concat.{flat_map-append}
use Rattle.btf_model.specs.Word.{word, word_of}
use Rattle.btf_model.specs.declared.endianness.Endianness.{Endianness}
use Rattle.btf_model.specs.Blob.{word_at}
use Rattle.btf_model.specs.Ext.{Section, IsSection, ext_section_bytes, BeginsWith, BeginsNoSection, Sections}
use Rattle.btf_model.proofs.Words.{IsBytes, IsBytes-take, IsBytes-drop, word_of-word, word-word_of, word_of_below, length-word}

pub length-section_bytes : (order : Endianness) (s : Section) → length (ext_section_bytes order s) ≡ 8 + length s.bytes
length-section_bytes order s = omega (arith, length-append (word order s.name ++ word order s.count) s.bytes, length-append (word order s.name) (word order s.count), length-word order s.name, length-word order s.count)

regrouped : (order : Endianness) (s : Section) (more : List ℕ) → ext_section_bytes order s ++ more ≡ word order s.name ++ (word order s.count ++ (s.bytes ++ more))
regrouped order s more = ap (λ (x : List ℕ). x ++ more) (append_assoc (word order s.name) (word order s.count) s.bytes) ∙ append_assoc (word order s.name) (word order s.count ++ s.bytes) more ∙ ap (λ (x : List ℕ). word order s.name ++ x) (append_assoc (word order s.count) s.bytes more)

after_name : (order : Endianness) (s : Section) (more : List ℕ) → drop 4 (ext_section_bytes order s ++ more) ≡ word order s.count ++ (s.bytes ++ more)
after_name order s more = ap (drop 4) (regrouped order s more) ∙ drop_at (word order s.name) (word order s.count ++ (s.bytes ++ more)) 4 (length-word order s.name)

pub name_at : (order : Endianness) (s : Section) (more : List ℕ) → s.name < 2 ^ 32 → word_at order 0 (ext_section_bytes order s ++ more) ≡ s.name
name_at order s more lt = ap (λ (x : List ℕ). word_of order (take 4 x)) (regrouped order s more) ∙ ap (word_of order) (take_at (word order s.name) (word order s.count ++ (s.bytes ++ more)) 4 (length-word order s.name)) ∙ word_of-word order s.name lt

pub count_at : (order : Endianness) (s : Section) (more : List ℕ) → s.count < 2 ^ 32 → word_at order 4 (ext_section_bytes order s ++ more) ≡ s.count
count_at order s more lt = ap (λ (x : List ℕ). word_of order (take 4 x)) (after_name order s more) ∙ ap (word_of order) (take_at (word order s.count) (s.bytes ++ more) 4 (length-word order s.count)) ∙ word_of-word order s.count lt

pub records_after : (order : Endianness) (s : Section) (more : List ℕ) → drop 4 (drop 4 (ext_section_bytes order s ++ more)) ≡ s.bytes ++ more
records_after order s more = ap (drop 4) (after_name order s more) ∙ drop_at (word order s.count) (s.bytes ++ more) 4 (length-word order s.count)

-- two sections at the front of the same bytes are equal, and the same bytes follow them
pub record SameSection (s t : Section) (x y : List ℕ) : Type 0 where
  pub section_is : s ≡ t
  pub rest : x ≡ y

same_words : (s t : Section) → s.name ≡ t.name → s.count ≡ t.count → s.bytes ≡ t.bytes → s ≡ t
same_words s t a b c = λ i. record { name = a i; count = b i; bytes = c i }

pub same_section : (order : Endianness) (size : ℕ) (s t : Section) (x y : List ℕ) → IsSection size s → IsSection size t → ext_section_bytes order s ++ x ≡ ext_section_bytes order t ++ y → SameSection s t x y
same_section order size s t x y hs ht e =
    let name : s.name ≡ t.name = sym (name_at order s x hs.name) ∙ ap (word_at order 0) e ∙ name_at order t y ht.name in
    let count : s.count ≡ t.count = sym (count_at order s x hs.count) ∙ ap (word_at order 4) e ∙ count_at order t y ht.count in
    let behind : s.bytes ++ x ≡ t.bytes ++ y = sym (records_after order s x) ∙ ap (λ (b : List ℕ). drop 4 (drop 4 b)) e ∙ records_after order t y in
    let len : length s.bytes ≡ length t.bytes = hs.records ∙ ap (λ (n : ℕ). size * n) count ∙ sym ht.records in
    let bytes : s.bytes ≡ t.bytes = sym (take_at s.bytes x (length t.bytes) len) ∙ ap (take (length t.bytes)) behind ∙ take_at t.bytes y (length t.bytes) refl in
    record {
      section_is = same_words s t name count bytes;
      rest = append_cancel_left s.bytes x y (behind ∙ ap (λ (b : List ℕ). b ++ y) (sym bytes));
    }

-- if no section begins after a list of sections, no other list is longer
no_further : (order : Endianness) (size : ℕ) (ss ts : List Section) (rest more : List ℕ) → AllByRecursion (IsSection size) ss → AllByRecursion (IsSection size) ts → BeginsNoSection order size rest → flat_map (ext_section_bytes order) ss ++ rest ≡ flat_map (ext_section_bytes order) ts ++ more → length rest ≤ length more
no_further order size [] [] rest more hs ht none e = omega (arith, ap length e)
no_further order size [] (t ∷ ts) rest more hs ht none e = absurd (none t (flat_map (ext_section_bytes order) ts ++ more) ht.0 (e ∙ append_assoc (ext_section_bytes order t) (flat_map (ext_section_bytes order) ts) more))
no_further order size (s ∷ ss) [] rest more hs ht none e = omega (arith, ap length e, length-append (ext_section_bytes order s ++ flat_map (ext_section_bytes order) ss) rest)
no_further order size (s ∷ ss) (t ∷ ts) rest more hs ht none e =
    let first = same_section order size s t (flat_map (ext_section_bytes order) ss ++ rest) (flat_map (ext_section_bytes order) ts ++ more) hs.0 ht.0 (sym (append_assoc (ext_section_bytes order s) (flat_map (ext_section_bytes order) ss) rest) ∙ e ∙ append_assoc (ext_section_bytes order t) (flat_map (ext_section_bytes order) ts) more) in
    no_further order size ss ts rest more hs.1 ht.1 none first.rest

-- no section begins after the longest list of sections
pub sections_from_none : (order : Endianness) (size : ℕ) (bytes : List ℕ) (ss : List Section) (rest : List ℕ) → BeginsWith order size bytes ss rest → BeginsNoSection order size rest → Sections order size bytes ss rest
sections_from_none order size bytes ss rest cut none = record {
  cut = cut;
  longest = λ others more h. no_further order size ss others rest more cut.0 h.0 none (sym cut.1 ∙ h.1);
}

all_push : (size : ℕ) (ss : List Section) (s : Section) → AllByRecursion (IsSection size) ss → IsSection size s → AllByRecursion (IsSection size) (ss ++ s ∷ [])
all_push size [] s h is = (is, tt)
all_push size (x ∷ xs) s h is = (h.0, all_push size xs s h.1 is)

-- before the first section
pub begins_empty : (order : Endianness) (size : ℕ) (bytes : List ℕ) → BeginsWith order size bytes [] bytes
begins_empty order size bytes = (tt, refl)

-- one more section
pub begins_push : (order : Endianness) (size : ℕ) (bytes : List ℕ) (ss : List Section) (s : Section) (rest more : List ℕ) → BeginsWith order size bytes ss rest → IsSection size s → rest ≡ ext_section_bytes order s ++ more → BeginsWith order size bytes (ss ++ s ∷ []) more
begins_push order size bytes ss s rest more h is e = (
  all_push size ss s h.0 is,
  h.1 ∙ ap (λ (x : List ℕ). flat_map (ext_section_bytes order) ss ++ x) e ∙ sym (append_assoc (flat_map (ext_section_bytes order) ss) (ext_section_bytes order s) more)
      ∙ ap (λ (x : List ℕ). flat_map (ext_section_bytes order) ss ++ x ++ more) (sym (append-nil (ext_section_bytes order s)))
      ∙ ap (λ (x : List ℕ). x ++ more) (sym (flat_map-append (ext_section_bytes order) ss (s ∷ []))),
)

-- fewer than two words begin with no section
pub none_in_short : (order : Endianness) (size : ℕ) (bytes : List ℕ) → length bytes < 8 → BeginsNoSection order size bytes
none_in_short order size bytes lt s more is e = omega (arith, lt, ap length e, length-append (ext_section_bytes order s) more, length-section_bytes order s)

-- nor do bytes whose count is 0 or whose records are truncated
pub none_in_cut : (order : Endianness) (size : ℕ) (bytes : List ℕ) (len : ℕ) → 8 ≤ length bytes → len ≡ size * word_at order 4 bytes → (len ≡ 0) ⊎ (length bytes < 8 + len) → BeginsNoSection order size bytes
none_in_cut order size bytes len le len-is bad s more is e =
    let count : word_at order 4 bytes ≡ s.count = ap (word_at order 4) e ∙ count_at order s more is.count in
    let len-bytes : length s.bytes ≡ len = is.records ∙ ap (λ (n : ℕ). size * n) (sym count) ∙ sym len-is in
    elim bad [
      | inl none ↦ positive size s.count is.some_byte is.some_record (sym is.records ∙ len-bytes ∙ none)
      | inr cut ↦ omega (arith, cut, len-bytes, ap length e, length-append (ext_section_bytes order s) more, length-section_bytes order s)
    ]
  where
    positive : (a b : ℕ) → 0 < a → 0 < b → a * b ≡ 0 → ⊥
    positive zero b pa pb e = omega (arith, pa)
    positive (suc a) zero pa pb e = omega (arith, pb)
    positive (suc a) (suc b) pa pb e = omega (arith, e)

-- if the bytes have all bytes of a section, they begin with it
pub begins_section : (order : Endianness) (bytes : List ℕ) (s : Section) (more : List ℕ) → IsBytes bytes → 8 ≤ length bytes → s.name ≡ word_at order 0 bytes → s.count ≡ word_at order 4 bytes → drop 4 (drop 4 bytes) ≡ s.bytes ++ more → bytes ≡ ext_section_bytes order s ++ more
begins_section order bytes s more fits le name count cut =
    let four : length (take 4 bytes) ≡ 4 = omega (arith, length-take 4 bytes) in
    let next : length (take 4 (drop 4 bytes)) ≡ 4 = omega (arith, length-take 4 (drop 4 bytes), length-drop 4 bytes) in
    let n : word order s.name ≡ take 4 bytes = ap (word order) name ∙ word-word_of order (take 4 bytes) four (IsBytes-take 4 bytes fits) in
    let c : word order s.count ≡ take 4 (drop 4 bytes) = ap (word order) count ∙ word-word_of order (take 4 (drop 4 bytes)) next (IsBytes-take 4 (drop 4 bytes) (IsBytes-drop 4 bytes fits)) in
    sym (take-append-drop 4 bytes) ∙ ap (λ (x : List ℕ). take 4 bytes ++ x) (sym (take-append-drop 4 (drop 4 bytes)) ∙ ap (λ (x : List ℕ). take 4 (drop 4 bytes) ++ x) cut ∙ ap (λ (x : List ℕ). x ++ (s.bytes ++ more)) (sym c))
    ∙ ap (λ (x : List ℕ). x ++ (word order s.count ++ (s.bytes ++ more))) (sym n) ∙ sym (regrouped order s more)

-- the values of the first two words have 32 bits
pub word_at_fits : (order : Endianness) (at : ℕ) (bytes : List ℕ) → IsBytes bytes → word_at order at bytes < 2 ^ 32
word_at_fits order at bytes fits = word_of_below order (take 4 (drop at bytes)) (IsBytes-take 4 (drop at bytes) (IsBytes-drop at bytes fits))

-- two lists of sections whose rests have the same length are equal
same_cut : (order : Endianness) (size : ℕ) (ss ts : List Section) (rest more : List ℕ) → AllByRecursion (IsSection size) ss → AllByRecursion (IsSection size) ts → length rest ≡ length more → flat_map (ext_section_bytes order) ss ++ rest ≡ flat_map (ext_section_bytes order) ts ++ more → (ss ≡ ts) × (rest ≡ more)
same_cut order size [] [] rest more hs ht len e = (refl, e)
same_cut order size [] (t ∷ ts) rest more hs ht len e =
    absurd (omega (arith, len, ap length e, length-append (ext_section_bytes order t ++ flat_map (ext_section_bytes order) ts) more, length-append (ext_section_bytes order t) (flat_map (ext_section_bytes order) ts), length-section_bytes order t))
same_cut order size (s ∷ ss) [] rest more hs ht len e =
    absurd (omega (arith, len, ap length e, length-append (ext_section_bytes order s ++ flat_map (ext_section_bytes order) ss) rest, length-append (ext_section_bytes order s) (flat_map (ext_section_bytes order) ss), length-section_bytes order s))
same_cut order size (s ∷ ss) (t ∷ ts) rest more hs ht len e =
    let first = same_section order size s t (flat_map (ext_section_bytes order) ss ++ rest) (flat_map (ext_section_bytes order) ts ++ more) hs.0 ht.0 (sym (append_assoc (ext_section_bytes order s) (flat_map (ext_section_bytes order) ss) rest) ∙ e ∙ append_assoc (ext_section_bytes order t) (flat_map (ext_section_bytes order) ts) more) in
    let others = same_cut order size ss ts rest more hs.1 ht.1 len first.rest in
    (ap (λ (x : Section). x ∷ ss) first.section_is ∙ ap (λ (xs : List Section). t ∷ xs) others.0, others.1)

pub same_sections : (order : Endianness) (size : ℕ) (bytes : List ℕ) (a b : List Section) (x y : List ℕ) → Sections order size bytes a x → Sections order size bytes b y → (a ≡ b) × (x ≡ y)
same_sections order size bytes a b x y h g = same_cut order size a b x y h.cut.0 g.cut.0 (omega (arith, h.longest b y g.cut, g.longest a x h.cut)) (sym h.cut.1 ∙ g.cut.1)
