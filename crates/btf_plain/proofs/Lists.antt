-- Items, read one after another.
use Rattle.std.proofs.Common.{◌≡◌, ℕ, zero, suc, ◌+◌, ◌*◌, ◌<◌, ◌≤◌, List, [], ◌∷◌, ◌++◌, length, take, drop, set, ◌-◌, ◌^◌, Some, Result, Ok, Err, refl, sym, ap, subst, ◌∙◌, arith, zero-add}
use Rattle.std.specs.Prelude.{IsErrAnd}
use Rattle.std.specs.List.{flat_map, AllByRecursion, AllZip}
use Rattle.std.proofs.lemmas.List.{append-nil, append_assoc, drop-drop, length-drop, length_push, length-append, take-append-drop, length-take-le, take-append-le, take_at, drop_at, set_split}
use Rattle.std.proofs.Math.Nat.{mul-le-mul_left}
use Rattle.std.proofs.lemmas.List.Concat.{flat_map-append, flat_map-cons}
use Rattle.std.proofs.lemmas.Result.{err_from_is_err_and}
use Rattle.btf_model.specs.Word.{word_of, words_at}
use Rattle.btf_model.specs.declared.endianness.Endianness.{Endianness}
use Rattle.btf_model.proofs.Words.{length-words_at}
use Rattle.btf_model.specs.Record.{Kind, Record, kind_of, vlen, tail_words}
use Rattle.btf_model.specs.Spelling.{kept, IsWhole}
use Rattle.btf_plain.specs.declared.error.BtfError.{BtfError}
use Rattle.btf_plain.specs.declared.error.BtfError.TheVariants.{InvalidTypeInfo}
use Rattle.btf_plain.specs.Error.{MeetsOrNoMemory}
use Rattle.btf_plain.specs.ReadItems.{ReadsItems}

-- words, and then more words
pub words_at-add : (order : Endianness) (m n : ℕ) (bytes : List ℕ) → words_at order (m + n) bytes ≡ words_at order m bytes ++ words_at order n (drop (4 * m) bytes)
words_at-add order zero n bytes = ap (λ k. words_at order k bytes) (zero-add n)
words_at-add order (suc m) n bytes =
    let k : suc m + n ≡ suc (m + n) = omega arith in
    let at : drop (4 * m) (drop 4 bytes) ≡ drop (4 * suc m) bytes = drop-drop (4 * m) 4 bytes ∙ ap (λ (j : ℕ). drop j bytes) (omega arith) in
    ap (λ k. words_at order k bytes) k ∙ ap (λ (ws : List ℕ). word_of order (take 4 bytes) ∷ ws) (words_at-add order m n (drop 4 bytes) ∙ ap (λ (b : List ℕ). words_at order m (drop 4 bytes) ++ words_at order n b) at)

-- the items that have been read from the front of the bytes, and the bytes that are left
pub record ItemsSoFar {X : Type 0} (width : ℕ) (item_words : X → List ℕ) (order : Endianness) (bytes : List ℕ) (n : ℕ) (items : List X) (rest : List ℕ) : Type 0 where
  pub count : length items ≡ n
  pub within : 4 * (width * n) ≤ length bytes
  pub read_words : flat_map item_words items ≡ words_at order (width * n) bytes
  pub behind : rest ≡ drop (4 * (width * n)) bytes

pub no_items : {X : Type 0} (width : ℕ) (item_words : X → List ℕ) (order : Endianness) (bytes : List ℕ) (items : List X) → items ≡ [] → ItemsSoFar width item_words order bytes 0 items bytes
no_items width item_words order bytes items is =
    let none : width * 0 ≡ 0 = omega arith in
    record {
      count = ap length is;
      within = omega arith;
      read_words = ap (flat_map item_words) is ∙ ap (λ k. words_at order k bytes) (sym none);
      behind = ap (λ (k : ℕ). drop (4 * k) bytes) (sym none);
    }

-- one more item
pub more_items : {X : Type 0} (width : ℕ) (item_words : X → List ℕ) (order : Endianness) (bytes : List ℕ) (n : ℕ) (items more : List X) (rest next : List ℕ) (x : X) → ItemsSoFar width item_words order bytes n items rest → 4 * width ≤ length rest → item_words x ≡ words_at order width rest → next ≡ drop (4 * width) rest → more ≡ items ++ x ∷ [] → ItemsSoFar width item_words order bytes (n + 1) more next
more_items width item_words order bytes n items more rest next x h le words next-is more-is =
    let k : width * (n + 1) ≡ width * n + width = omega arith in
    record {
      count = omega (arith, ap length more-is, length_push items x, h.count);
      within = omega (arith, h.within, le, ap length h.behind, length-drop (4 * (width * n)) bytes);
      read_words =
          ap (flat_map item_words) more-is ∙ flat_map-append item_words items (x ∷ []) ∙ ap (λ (ws : List ℕ). flat_map item_words items ++ ws) (append-nil (item_words x) ∙ words ∙ ap (words_at order width) h.behind)
          ∙ ap (λ (ws : List ℕ). ws ++ words_at order width (drop (4 * (width * n)) bytes)) h.read_words
          ∙ sym (words_at-add order (width * n) width bytes) ∙ ap (λ j. words_at order j bytes) (sym k);
      behind = next-is ∙ ap (drop (4 * width)) h.behind ∙ drop-drop (4 * width) (4 * (width * n)) bytes ∙ ap (λ (j : ℕ). drop j bytes) (omega arith);
    }

-- a truncated item
pub items_cut : {X : Type 0} {Y : Type 0} (items_of : Y → List X) (width : ℕ) (item_words : X → List ℕ) (order : Endianness) (bytes : List ℕ) (n count : ℕ) (items : List X) (rest : List ℕ) (e : BtfError) (r : Result Y BtfError) → ItemsSoFar width item_words order bytes n items rest → n < count → length rest < 4 * width → e ≡ InvalidTypeInfo → IsErrAnd r (λ y. y ≡ e) → MeetsOrNoMemory items_of r (ReadsItems width item_words order bytes count)
items_cut {X} {Y} items_of width item_words order bytes n count items rest e r h lt short is err =
    let p = err_from_is_err_and r err in
    let le : width * (n + 1) ≤ width * count = mul-le-mul_left width (omega arith) in
    let cut : length bytes < 4 * (width * count) = omega (arith, h.within, short, le, ap length h.behind, length-drop (4 * (width * n)) bytes) in
    subst (λ (x : Result Y BtfError). MeetsOrNoMemory items_of x (ReadsItems width item_words order bytes count)) (sym (p.1 ∙ ap (λ (x : BtfError). Err x) (p.2 ∙ is))) (cut, refl)

-- ---- lists as the tail of a record

-- the number of words of each item
pub length-items : {X : Type 0} (k : ℕ) (f : X → List ℕ) → ((x : X) → length (f x) ≡ k) → (xs : List X) → length (flat_map f xs) ≡ k * length xs
length-items k f each [] = omega arith
length-items k f each (x ∷ xs) = omega (arith, length-append (f x) (flat_map f xs), each x, length-items k f each xs)

-- reading retains all words of a record with a list
pub list_is_whole : (k : Kind) (r : Record) → kind_of r.info ≡ Some k → length r.tail ≡ tail_words k (vlen r.info) → AllByRecursion (λ w. w < 2 ^ 32) (r.name ∷ r.info ∷ r.third ∷ []) → AllByRecursion (λ w. w < 2 ^ 32) r.tail → kept k r ≡ r → IsWhole r
list_is_whole k r kind tail head fits stays = (k, record { kind = kind; tail = tail; words = (head.0, (head.1.0, (head.1.1.0, fits))) }, stays)

-- the words of the first items
words_before : {X : Type 0} (k : ℕ) (f : X → List ℕ) → ((x : X) → length (f x) ≡ k) → (xs : List X) (i : ℕ) → i ≤ length xs → take (k * i) (flat_map f xs) ≡ flat_map f (take i xs)
words_before k f each xs i le =
    let parts : flat_map f xs ≡ flat_map f (take i xs) ++ flat_map f (drop i xs) = ap (flat_map f) (sym (take-append-drop i xs)) ∙ flat_map-append f (take i xs) (drop i xs) in
    let len : length (flat_map f (take i xs)) ≡ k * i = length-items k f each (take i xs) ∙ ap (λ (n : ℕ). k * n) (length-take-le i xs le) in
    ap (take (k * i)) parts ∙ take_at (flat_map f (take i xs)) (flat_map f (drop i xs)) (k * i) len

-- the words after the first items
pub words_after : {X : Type 0} (k : ℕ) (f : X → List ℕ) → ((x : X) → length (f x) ≡ k) → (xs : List X) (i : ℕ) → i ≤ length xs → drop (k * i) (flat_map f xs) ≡ flat_map f (drop i xs)
words_after k f each xs i le =
    let parts : flat_map f xs ≡ flat_map f (take i xs) ++ flat_map f (drop i xs) = ap (flat_map f) (sym (take-append-drop i xs)) ∙ flat_map-append f (take i xs) (drop i xs) in
    let len : length (flat_map f (take i xs)) ≡ k * i = length-items k f each (take i xs) ∙ ap (λ (n : ℕ). k * n) (length-take-le i xs le) in
    ap (drop (k * i)) parts ∙ drop_at (flat_map f (take i xs)) (flat_map f (drop i xs)) (k * i) len

-- an item that replaces another
pub words_of_set : {X : Type 0} (k : ℕ) (f : X → List ℕ) → ((x : X) → length (f x) ≡ k) → (xs : List X) (i : ℕ) (y : X) → i < length xs → flat_map f (set xs i y) ≡ take (k * i) (flat_map f xs) ++ f y ++ drop (k * suc i) (flat_map f xs)
words_of_set k f each xs i y lt =
    ap (flat_map f) (set_split xs i y lt) ∙ flat_map-append f (take i xs) (y ∷ drop (suc i) xs)
    ∙ ap (λ (ws : List ℕ). ws ++ (f y ++ flat_map f (drop (suc i) xs))) (sym (words_before k f each xs i (omega arith)))
    ∙ ap (λ (ws : List ℕ). take (k * i) (flat_map f xs) ++ (f y ++ ws)) (sym (words_after k f each xs (suc i) (omega arith)))
    ∙ sym (append_assoc (take (k * i) (flat_map f xs)) (f y) (drop (k * suc i) (flat_map f xs)))

-- the first of more items that were read
pub first_items : {X : Type 0} (width : ℕ) (f : X → List ℕ) → ((x : X) → length (f x) ≡ width) → (order : Endianness) (bytes : List ℕ) (n more : ℕ) (xs : List X) → n ≤ more → ReadsItems width f order bytes more (Ok (take more xs)) → ReadsItems width f order bytes n (Ok (take n xs))
first_items width f each order bytes n more xs le h =
    let fewer : width * n ≤ width * more = mul-le-mul_left width le in
    let both : take n (take more xs) ≡ take n xs = sym (take-append-le n (take more xs) (drop more xs) (omega (arith, h.1, le))) ∙ ap (take n) (take-append-drop more xs) in
    let ws = words_at order (width * more) bytes in
    let split : ws ≡ words_at order (width * n) bytes ++ words_at order (width * more - width * n) (drop (4 * (width * n)) bytes) =
    ap (λ k. words_at order k bytes) (omega (arith, fewer)) ∙ words_at-add order (width * n) (width * more - width * n) bytes in (
      omega (arith, h.0, fewer),
      ap length (sym both) ∙ length-take-le n (take more xs) (omega (arith, h.1, le)),
      ap (flat_map f) (sym both) ∙ sym (words_before width f each (take more xs) n (omega (arith, h.1, le))) ∙ ap (take (width * n)) (h.2 ∙ split)
          ∙ take_at (words_at order (width * n) bytes) (words_at order (width * more - width * n) (drop (4 * (width * n)) bytes)) (width * n) (length-words_at order (width * n) bytes),
    )

-- clones have the words of the originals
pub same_words : {X A : Type 0} (IsClone : X → X → Type 0) (words : X → List A) → ((x y : X) → IsClone x y → words y ≡ words x) → (xs ys : List X) → AllZip IsClone xs ys → flat_map words ys ≡ flat_map words xs
same_words IsClone words same [] [] h = refl
same_words IsClone words same [] (y ∷ ys) h = absurd h
same_words IsClone words same (x ∷ xs) [] h = absurd h
same_words IsClone words same (x ∷ xs) (y ∷ ys) h =
    flat_map-cons words y ys ∙ ap (λ w. w ++ flat_map words ys) (same x y h.0) ∙ ap (λ w. words x ++ w) (same_words IsClone words same xs ys h.1) ∙ sym (flat_map-cons words x xs)
