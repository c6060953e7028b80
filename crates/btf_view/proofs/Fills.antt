-- Values that are written to a buffer in their order.
use Rattle.std.proofs.Common.{◌≡◌, ◌∙◌, ◌++◌, ◌<◌, ◌≤◌, ◌+◌, ◌*◌, ℕ, zero, suc, List, [], ◌∷◌, Some, length, take, drop, set, min, refl, sym, ap, subst, arith, ◌-◌, inl, inr}
use Rattle.std.specs.Prelude.{map, slice_get}
use Rattle.std.specs.List.{flat_map}
use Rattle.std.proofs.Math.Nat.{min-le_right, min-eq_left, min-eq_right, mul-add}
use Rattle.std.proofs.lemmas.Bool.{cases_lt}
use Rattle.std.proofs.Math.Seq.{take-append_seam}
use Rattle.std.proofs.lemmas.Grind.{flat_map-append}
use Rattle.std.proofs.lemmas.List.{append-nil, append_assoc, length-map, length_push, map-append, take_all, drop-drop, drop-set-lt, length-take-le, take-append-drop, take_min, take_more, take_more_set}
use Rattle.std.proofs.lemmas.Option.{slice_get_within, get_or_from_slice_get}
use Rattle.btf_model.specs.declared.endianness.Endianness.{Endianness}
use Rattle.btf_model.specs.Word.{word_of, words_at}
use Rattle.btf_model.specs.Blob.{word_at}
use Rattle.btf_plain.proofs.Lists.{words_at-add}
use Rattle.btf_view.specs.Forms.{Begins}
use Rattle.btf_view.specs.Items.{member_form, member_forms}

-- the first places of a buffer have the first of these values, and the others are unchanged
pub record Written {X : Type 0} (items old out : List X) (i : ℕ) : Type 0 where
  pub written : take i out ≡ take i items
  pub unchanged : drop i out ≡ drop i old

pub nothing_written : {X : Type 0} (items old : List X) → Written items old old 0
nothing_written items old = record { written = refl; unchanged = refl }

pub one_written : {X : Type 0} (items old out : List X) (i : ℕ) (x : X) → Written items old out i → i < length out → slice_get items i ≡ Some x → Written items old (set out i x) (i + 1)
one_written items old out i x h lt is =
    let more : take (i + 1) items ≡ take i items ++ x ∷ [] = take_more items i x (slice_get_within items i x is) ∙ ap (λ y. take i items ++ y ∷ []) (get_or_from_slice_get items i x x is) in
    record {
      written = take_more_set out i x lt ∙ ap (λ ys. ys ++ x ∷ []) h.written ∙ sym more;
      unchanged = drop-set-lt (i + 1) out i x (omega arith) ∙ sym (drop-drop 1 i out) ∙ ap (drop 1) h.unchanged ∙ drop-drop 1 i old;
    }

pub all_written : {X : Type 0} (items old out : List X) (k : ℕ) → Written items old out k → k ≡ min (length old) (length items) → Begins (take (length old) items) old out k
all_written items old out k h count =
    let same : take k items ≡ take (length old) items = ap (λ (n : ℕ). take n items) count ∙ take_min (length old) items in
    let few : k ≤ length items = subst (λ (n : ℕ). n ≤ length items) (sym count) (min-le_right (length old) (length items)) in (
      sym (length-take-le k items few) ∙ ap length same,
      sym (take-append-drop k out) ∙ ap (λ ys. ys ++ drop k out) (h.written ∙ same) ∙ ap (λ ys. take (length old) items ++ ys) h.unchanged,
    )

-- ---- members

three_more : (n : ℕ) → 3 * suc n ≡ suc (suc (suc (3 * n)))
three_more n = omega arith

-- the words of one more member
one_more_member : (order : Endianness) (info n : ℕ) (bytes : List ℕ) → member_forms info (words_at order (3 * suc n) bytes) ≡ member_form info (word_of order (take 4 bytes)) (word_of order (take 4 (drop 4 bytes))) (word_of order (take 4 (drop 4 (drop 4 bytes)))) ∷ member_forms info (words_at order (3 * n) (drop 4 (drop 4 (drop 4 bytes))))
one_more_member order info n bytes = ap (λ (m : ℕ). member_forms info (words_at order m bytes)) (three_more n)

-- as many members as the info word says
pub count_members : (order : Endianness) (info n : ℕ) (bytes : List ℕ) → length (member_forms info (words_at order (3 * n) bytes)) ≡ n
count_members order info zero bytes = refl
count_members order info (suc n) bytes = ap length (one_more_member order info n bytes) ∙ ap suc (count_members order info n (drop 4 (drop 4 (drop 4 bytes))))

-- ---- the forms of items

-- words that begin with those of items have their forms first
forms_first : {X F : Type 0} (item_words : X → List ℕ) (form : X → F) (forms : List ℕ → List F) → ((x : X) (rest : List ℕ) → forms (item_words x ++ rest) ≡ form x ∷ forms rest) → (items : List X) (rest : List ℕ) → forms (flat_map item_words items ++ rest) ≡ map form items ++ forms rest
forms_first item_words form forms next [] rest = refl
forms_first {X} {F} item_words form forms next (x ∷ xs) rest =
    ap forms (append_assoc (item_words x) (flat_map item_words xs) rest) ∙ next x (flat_map item_words xs ++ rest)
    ∙ ap (λ (fs : List F). form x ∷ fs) (forms_first item_words form forms next xs rest)

-- the first places of a buffer have the forms of the items at the front of the bytes, and the others are unchanged
pub record FormsSoFar {X F : Type 0} (width : ℕ) (item_words : X → List ℕ) (form : X → F) (order : Endianness) (bytes : List ℕ) (old out : List F) (i : ℕ) : Type 0 where
  pub items : List X
  pub count : length items ≡ i
  pub words : flat_map item_words items ≡ words_at order (width * i) bytes
  pub written : take i out ≡ map form items
  pub unchanged : drop i out ≡ drop i old

pub no_forms : {X F : Type 0} (width : ℕ) (item_words : X → List ℕ) (form : X → F) (order : Endianness) (bytes : List ℕ) (old : List F) → FormsSoFar width item_words form order bytes old old 0
no_forms width item_words form order bytes old =
    let none : 0 ≡ width * 0 = omega arith in
    record { items = []; count = refl; words = ap (λ k. words_at order k bytes) none; written = refl; unchanged = refl }

-- one more item
pub more_forms : {X F : Type 0} (width : ℕ) (item_words : X → List ℕ) (form : X → F) (order : Endianness) (bytes : List ℕ) (old out : List F) (i : ℕ) (x : X) → FormsSoFar width item_words form order bytes old out i → i < length out → item_words x ≡ words_at order width (drop (4 * (width * i)) bytes) → FormsSoFar width item_words form order bytes old (set out i (form x)) (i + 1)
more_forms {X} {F} width item_words form order bytes old out i x h lt words =
    let k : width * i + width ≡ width * (i + 1) = omega arith in
    record {
      items = h.items ++ x ∷ [];
      count = omega (arith, length_push h.items x, h.count);
      words =
          flat_map-append item_words h.items (x ∷ []) ∙ ap (λ (ws : List ℕ). ws ++ flat_map item_words (x ∷ [])) h.words
          ∙ ap (λ (ws : List ℕ). words_at order (width * i) bytes ++ ws) (append-nil (item_words x) ∙ words)
          ∙ sym (words_at-add order (width * i) width bytes) ∙ ap (λ j. words_at order j bytes) k;
      written = take_more_set out i (form x) lt ∙ ap (λ (ys : List F). ys ++ form x ∷ []) h.written ∙ sym (map-append form h.items (x ∷ []));
      unchanged = drop-set-lt (i + 1) out i (form x) (omega arith) ∙ sym (drop-drop 1 i out) ∙ ap (drop 1) h.unchanged ∙ drop-drop 1 i old;
    }

-- the forms of the first items, as many as fit
front_forms : {F : Type 0} (xs more : List F) (k n m : ℕ) → length xs ≡ k → k ≡ min m n → (n ≡ k → more ≡ []) → take m (xs ++ more) ≡ xs
front_forms {F} xs more k n m len is none = elim (cases_lt n m) [
  | inl less ↦
      let few : n ≡ k = omega (arith, is, min-eq_right {n = n} {m = m} (omega (arith, less))) in
      ap (λ (ys : List F). take m (xs ++ ys)) (none few) ∙ ap (λ (ys : List F). take m ys) (append-nil xs) ∙ take_all m xs (omega (arith, len, few, less))
  | inr fits ↦
      let all : m ≡ length xs = omega (arith, len, is, min-eq_left {n = m} {m = n} fits) in
      ap (λ (j : ℕ). take j (xs ++ more)) all ∙ take-append_seam xs more
]

-- all items, as many as fit
pub all_forms : {X F : Type 0} (width : ℕ) (item_words : X → List ℕ) (form : X → F) (forms : List ℕ → List F) (order : Endianness) (bytes : List ℕ) (old out : List F) (k n : ℕ) → ((x : X) (rest : List ℕ) → forms (item_words x ++ rest) ≡ form x ∷ forms rest) → forms [] ≡ [] → FormsSoFar width item_words form order bytes old out k → k ≡ min (length old) n → Begins (take (length old) (forms (words_at order (width * n) bytes))) old out k
all_forms {X} {F} width item_words form forms order bytes old out k n next nothing h is =
    let low : k ≤ n = omega (arith, is, min-le_right (length old) n) in
    let xs = map form h.items in
    let rest = words_at order (width * (n - k)) (drop (4 * (width * k)) bytes) in
    let len : length xs ≡ k = length-map h.items form ∙ h.count in
    let parts : n ≡ k + (n - k) = omega (arith, low) in
    let cut : width * n ≡ width * k + width * (n - k) = ap (λ (j : ℕ). width * j) parts ∙ mul-add width k (n - k) in
    let words : words_at order (width * n) bytes ≡ flat_map item_words h.items ++ rest =
    ap (λ j. words_at order j bytes) cut ∙ words_at-add order (width * k) (width * (n - k)) bytes ∙ ap (λ (ws : List ℕ). ws ++ rest) (sym h.words) in
    let none : n ≡ k → forms rest ≡ [] = λ same.
    let no_more : n - k ≡ 0 = omega (arith, same) in
    let empty : width * (n - k) ≡ 0 = ap (λ (j : ℕ). width * j) no_more ∙ omega arith in
    ap (λ (j : ℕ). forms (words_at order j (drop (4 * (width * k)) bytes))) empty ∙ nothing in
    let front : take (length old) (forms (words_at order (width * n) bytes)) ≡ xs =
    ap (λ (ws : List ℕ). take (length old) (forms ws)) words ∙ ap (λ (fs : List F). take (length old) fs) (forms_first item_words form forms next h.items rest)
    ∙ front_forms xs (forms rest) k n (length old) len is none in (
      sym len ∙ ap (λ (fs : List F). length fs) (sym front),
      sym (take-append-drop k out) ∙ ap (λ (ys : List F). ys ++ drop k out) (h.written ∙ sym front) ∙ ap (λ (ys : List F). take (length old) (forms (words_at order (width * n) bytes)) ++ ys) h.unchanged,
    )

-- the words of an item at an offset
pub two_words : (order : Endianness) (bytes : List ℕ) (at a b x width : ℕ) → width ≡ 2 → a ≡ word_at order at bytes → b ≡ word_at order (at + 4) bytes → take width (a ∷ b ∷ x ∷ []) ≡ words_at order width (drop at bytes)
two_words order bytes at a b x width is first second =
    let second_is : b ≡ word_of order (take 4 (drop 4 (drop at bytes))) = second ∙ ap (λ (xs : List ℕ). word_of order (take 4 xs)) (sym (drop-drop 4 at bytes)) in
    let both : take 2 (a ∷ b ∷ x ∷ []) ≡ words_at order 2 (drop at bytes) = (λ i. first i ∷ second_is i ∷ []) in
    subst (λ (w : ℕ). take w (a ∷ b ∷ x ∷ []) ≡ words_at order w (drop at bytes)) (sym is) both

pub three_words : (order : Endianness) (bytes : List ℕ) (at a b x width : ℕ) → width ≡ 3 → a ≡ word_at order at bytes → b ≡ word_at order (at + 4) bytes → x ≡ word_at order (at + 8) bytes → take width (a ∷ b ∷ x ∷ []) ≡ words_at order width (drop at bytes)
three_words order bytes at a b x width is first second third =
    let second_is : b ≡ word_of order (take 4 (drop 4 (drop at bytes))) = second ∙ ap (λ (xs : List ℕ). word_of order (take 4 xs)) (sym (drop-drop 4 at bytes)) in
    let next : drop (at + 8) bytes ≡ drop 4 (drop 4 (drop at bytes)) = sym (drop-drop 4 4 (drop at bytes) ∙ drop-drop 8 at bytes) in
    let third_is : x ≡ word_of order (take 4 (drop 4 (drop 4 (drop at bytes)))) = third ∙ ap (λ (xs : List ℕ). word_of order (take 4 xs)) next in
    let all : take 3 (a ∷ b ∷ x ∷ []) ≡ words_at order 3 (drop at bytes) = (λ i. first i ∷ second_is i ∷ third_is i ∷ []) in
    subst (λ (w : ℕ). take w (a ∷ b ∷ x ∷ []) ≡ words_at order w (drop at bytes)) (sym is) all
