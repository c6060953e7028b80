-- The words of items and of records in the bytes of a view, one by one.
use Rattle.std.proofs.Common.{◌≡◌, ◌∙◌, ℕ, zero, suc, ◌+◌, ◌*◌, ◌/◌, ◌%◌, ◌<◌, ◌≤◌, ◌⊎◌, inl, inr, List, [], ◌∷◌, ◌++◌, length, Some, None, refl, sym, ap, subst, arith, drop, take, min}
use Rattle.std.specs.Prelude.{slice_get, get_or}
use Rattle.std.specs.List.{flat_map}
use Rattle.std.specs.Option.{option_map}
use Rattle.std.proofs.Math.Nat.{div-add-mod, mod-lt, mul-le-mul_left}
use Rattle.std.proofs.lemmas.List.{get_or-take, get_or_append_left, length-map, drop-drop}
use Rattle.std.proofs.lemmas.Option.{same_Some, slice_get_past, slice_get_within, slice_get-get_or, none-some}
use Rattle.btf_model.specs.declared.endianness.Endianness.{Endianness}
use Rattle.btf_model.specs.Record.{Kind, Unknown, Array, Fwd, Var, Record, vlen, tail_words}
use Rattle.btf_model.specs.Blob.{word_at}
use Rattle.btf_model.specs.Spelling.{kept}
use Rattle.btf_model.specs.Word.{word_of, words_at}
use Rattle.btf_model.proofs.Blobs.{slice_get-append_left}
use Rattle.btf_plain.specs.Kind.{kind}
use Rattle.btf_plain.specs.ReadItems.{padded}
use Rattle.btf_plain.specs.declared.kind.BtfKind.{BtfKind}
use Rattle.btf_plain.specs.declared.kind.BtfKind.TheVariants as code
use Rattle.btf_plain.proofs.Lists.{length-items}
use Rattle.btf_view.specs.TypeRef.{first_words, item_at}
use Rattle.btf_view.specs.Words.{kept_words}

-- an element after other ones
pub slice_get-append_right : {X : Type 0} (xs ys : List X) (i : ℕ) → slice_get (xs ++ ys) (length xs + i) ≡ slice_get ys i
slice_get-append_right {X} [] ys i = ap (slice_get ys) (let e : 0 + i ≡ i = omega arith in e)
slice_get-append_right {X} (x ∷ xs) ys i =
    ap (slice_get (x ∷ (xs ++ ys))) (let e : suc (length xs) + i ≡ suc (length xs + i) = omega arith in e) ∙ slice_get-append_right xs ys i

-- a word of an item
pub word_of_item : {X : Type 0} (w : ℕ) (f : X → List ℕ) → ((x : X) → length (f x) ≡ w) → (xs : List X) (q j : ℕ) (x : X) → slice_get xs q ≡ Some x → j < w → slice_get (flat_map f xs) (w * q + j) ≡ slice_get (f x) j
word_of_item {X} w f each [] q j x is lt = absurd (omega (arith, slice_get_within [] q x is))
word_of_item {X} w f each (y ∷ ys) zero j x is lt =
    ap (slice_get (f y ++ flat_map f ys)) (let e : w * zero + j ≡ j = omega arith in e)
    ∙ slice_get-append_left (f y) (flat_map f ys) j (omega (arith, each y, lt)) ∙ ap (λ (z : X). slice_get (f z) j) (same_Some y x is)
word_of_item {X} w f each (y ∷ ys) (suc q) j x is lt =
    ap (slice_get (f y ++ flat_map f ys)) (let e : w * suc q + j ≡ length (f y) + (w * q + j) = omega (arith, each y) in e)
    ∙ slice_get-append_right (f y) (flat_map f ys) (w * q + j) ∙ word_of_item w f each ys q j x is lt

-- the words of an item, and zeroes
pub padded_word : (w : ℕ) (ws : List ℕ) (j d : ℕ) → length ws ≡ w → (w ≡ 2) ⊎ (w ≡ 3) → j < w → slice_get ws j ≡ Some (get_or (padded ws) j d)
padded_word w ws j d len width lt =
    let three : w ≤ 3 = elim width [ inl two ↦ omega (arith, two) | inr three ↦ omega (arith, three) ] in
    slice_get-get_or ws j d (omega (arith, len, lt))
    ∙ ap (λ (n : ℕ). Some n) (sym (get_or-take 3 (ws ++ 0 ∷ []) j d (omega (arith, lt, three)) ∙ get_or_append_left ws (0 ∷ []) d j (omega (arith, len, lt))))

-- the place of a word among those of items
pub parts_of : (i w : ℕ) → i ≡ w * (i / w) + i % w
parts_of i w = sym (div-add-mod i w)

-- no word is after those of all items
pub no_word : {X : Type 0} (w : ℕ) (f : X → List ℕ) → ((x : X) → length (f x) ≡ w) → (xs : List X) (i : ℕ) → w * length xs ≤ i → slice_get (flat_map f xs) i ≡ None
no_word w f each xs i le = slice_get_past (flat_map f xs) i (omega (arith, length-items w f each xs, le))

-- the word of an index, which is in the item that has it
pub word_found : {X : Type 0} (w i : ℕ) (f : X → List ℕ) → ((x : X) → length (f x) ≡ w) → (w ≡ 2) ⊎ (w ≡ 3) → (xs : List X) (x : X) → slice_get xs (i / w) ≡ Some x → slice_get (flat_map f xs) i ≡ Some (get_or (padded (f x)) (i % w) 0)
word_found w i f each width xs x is =
    let lt : i % w < w = mod-lt i (elim width [ inl two ↦ omega (arith, two) | inr three ↦ omega (arith, three) ]) in
    ap (slice_get (flat_map f xs)) (parts_of i w) ∙ word_of_item w f each xs (i / w) (i % w) x is lt ∙ padded_word w (f x) (i % w) 0 (each x) width lt

-- no item has the word of an index
pub word_missing : {X : Type 0} (w i : ℕ) (f : X → List ℕ) → ((x : X) → length (f x) ≡ w) → (xs : List X) → length xs ≤ i / w → slice_get (flat_map f xs) i ≡ None
word_missing w i f each xs le =
    let more : w * length xs ≤ w * (i / w) = mul-le-mul_left w le in
    no_word w f each xs i (omega (arith, more, parts_of i w))

-- ---- the words of an item

-- an element after those that are left out
pub slice_get-drop : {X : Type 0} (n : ℕ) (xs : List X) (i : ℕ) → slice_get (drop n xs) i ≡ slice_get xs (n + i)
slice_get-drop {X} zero xs i = ap (slice_get xs) (let e : i ≡ zero + i = omega arith in e)
slice_get-drop {X} (suc n) [] i = sym (slice_get_past [] (suc n + i) (omega arith))
slice_get-drop {X} (suc n) (x ∷ xs) i = slice_get-drop n xs i ∙ ap (slice_get (x ∷ xs)) (let e : suc (n + i) ≡ suc n + i = omega arith in e)

-- a list that lacks a word has no item at its front
none_first : (w : ℕ) (ws : List ℕ) (j : ℕ) → j < w → slice_get ws j ≡ None → first_words w ws ≡ None
none_first zero ws j lt none = absurd (omega (arith, lt))
none_first (suc n) [] j lt none = refl
none_first (suc n) (x ∷ ws) zero lt none = absurd (none-some x (sym none))
none_first (suc n) (x ∷ ws) (suc j) lt none = ap (option_map (λ (rest : List ℕ). x ∷ rest)) (none_first n ws j (omega (arith, lt)) none)

pub no_item : (w : ℕ) (ws : List ℕ) (i j : ℕ) → j < w → slice_get ws (w * i + j) ≡ None → item_at w ws i ≡ None
no_item w ws i j lt none = none_first w (drop (w * i) ws) j lt (slice_get-drop (w * i) ws j ∙ none)

-- two or three words at the front
two_first : (ws : List ℕ) (a b : ℕ) → slice_get ws 0 ≡ Some a → slice_get ws 1 ≡ Some b → first_words 2 ws ≡ Some (a ∷ b ∷ [])
two_first [] a b first second = absurd (omega (arith, slice_get_within [] 0 a first))
two_first (x ∷ []) a b first second = absurd (omega (arith, slice_get_within [] 0 b second))
two_first (x ∷ y ∷ ws) a b first second = λ i. Some (same_Some x a first i ∷ same_Some y b second i ∷ [])

three_first : (ws : List ℕ) (a b c : ℕ) → slice_get ws 0 ≡ Some a → slice_get ws 1 ≡ Some b → slice_get ws 2 ≡ Some c → first_words 3 ws ≡ Some (a ∷ b ∷ c ∷ [])
three_first [] a b c first second third = absurd (omega (arith, slice_get_within [] 0 a first))
three_first (x ∷ []) a b c first second third = absurd (omega (arith, slice_get_within [] 0 b second))
three_first (x ∷ y ∷ []) a b c first second third = absurd (omega (arith, slice_get_within [] 0 c third))
three_first (x ∷ y ∷ z ∷ ws) a b c first second third = λ i. Some (same_Some x a first i ∷ same_Some y b second i ∷ same_Some z c third i ∷ [])

pub item_of_two : (w : ℕ) (ws : List ℕ) (i a b x : ℕ) → w ≡ 2 → slice_get ws (w * i) ≡ Some a → slice_get ws (w * i + 1) ≡ Some b → item_at w ws i ≡ Some (take w (a ∷ b ∷ x ∷ []))
item_of_two w ws i a b x is first second =
    let at = w * i in
    let front = two_first (drop at ws) a b (slice_get-drop at ws 0 ∙ ap (slice_get ws) (let e : at + 0 ≡ at = omega arith in e) ∙ first) (slice_get-drop at ws 1 ∙ second) in
    ap (λ (n : ℕ). first_words n (drop at ws)) is ∙ front ∙ ap (λ (n : ℕ). Some (take n (a ∷ b ∷ x ∷ []))) (sym is)

pub item_of_three : (w : ℕ) (ws : List ℕ) (i a b c : ℕ) → w ≡ 3 → slice_get ws (w * i) ≡ Some a → slice_get ws (w * i + 1) ≡ Some b → slice_get ws (w * i + 2) ≡ Some c → item_at w ws i ≡ Some (take w (a ∷ b ∷ c ∷ []))
item_of_three w ws i a b c is first second third =
    let at = w * i in
    let front = three_first (drop at ws) a b c (slice_get-drop at ws 0 ∙ ap (slice_get ws) (let e : at + 0 ≡ at = omega arith in e) ∙ first) (slice_get-drop at ws 1 ∙ second) (slice_get-drop at ws 2 ∙ third) in
    ap (λ (n : ℕ). first_words n (drop at ws)) is ∙ front ∙ ap (λ (n : ℕ). Some (take n (a ∷ b ∷ c ∷ []))) (sym is)

-- ---- the words of a record in the bytes of a view

-- a word of the first ones
pub nth_word : (order : Endianness) (n : ℕ) (bytes : List ℕ) (i : ℕ) → i < n → slice_get (words_at order n bytes) i ≡ Some (word_at order (4 * i) bytes)
nth_word order zero bytes i lt = absurd (omega (arith, lt))
nth_word order (suc n) bytes zero lt = refl
nth_word order (suc n) bytes (suc i) lt =
    nth_word order n (drop 4 bytes) i (omega (arith, lt))
    ∙ ap (λ (xs : List ℕ). Some (word_of order (take 4 xs))) (drop-drop (4 * i) 4 bytes ∙ ap (λ (j : ℕ). drop j bytes) (let e : 4 + 4 * i ≡ 4 * suc i = omega arith in e))

-- reading retains all words, and changes one of VAR alone
pub length-kept : (k : Kind) (ws : List ℕ) → length (kept_words k ws) ≡ length ws
length-kept Var ws = length-map ws (min 3)
length-kept k ws = refl

-- all words but those of VAR are retained as they are
pub words_kept : (k : BtfKind) (ws : List ℕ) → (k ≡ code.Var → ⊥) → kept_words (kind k) ws ≡ ws
words_kept code.Var ws other = absurd (other refl)
words_kept k ws other = refl

-- what is retained of the words of a record, with the parts of the record that is read
own_parts : (k : Kind) (order : Endianness) (name info third : ℕ) (bytes : List ℕ) → kept k (record { name = name; info = info; third = third; tail = words_at order (tail_words k (vlen info)) bytes }) ≡ record (kept k (record { name = name; info = info; third = third; tail = words_at order (tail_words k (vlen info)) bytes })) { tail = kept_words k (words_at order (tail_words k (vlen (kept k (record { name = name; info = info; third = third; tail = words_at order (tail_words k (vlen info)) bytes })).info)) bytes) }
own_parts Unknown order name info third bytes = refl
own_parts Fwd order name info third bytes = refl
own_parts Array order name info third bytes = refl
own_parts Var order name info third bytes = refl
own_parts k order name info third bytes = refl

-- the record that a head and the bytes after it are read as is that of the words which are retained
pub kept_parts : (k : Kind) (order : Endianness) (raw : Record) (bytes : List ℕ) (r : Record) → r ≡ kept k raw → raw.tail ≡ words_at order (tail_words k (vlen raw.info)) bytes → r ≡ record { name = r.name; info = r.info; third = r.third; tail = kept_words k (words_at order (tail_words k (vlen r.info)) bytes) }
kept_parts k order raw bytes r is tail =
    let w : Record = record { name = raw.name; info = raw.info; third = raw.third; tail = words_at order (tail_words k (vlen raw.info)) bytes } in
    let same : r ≡ kept k w = is ∙ ap (λ (ws : List ℕ). kept k (record { name = raw.name; info = raw.info; third = raw.third; tail = ws })) tail in
    subst (λ (x : Record). x ≡ record { name = x.name; info = x.info; third = x.third; tail = kept_words k (words_at order (tail_words k (vlen x.info)) bytes) }) (sym same) (own_parts k order raw.name raw.info raw.third bytes)
