-- Numbers of two and four bytes in both orders, and lists of words.
use Rattle.std.proofs.Common.{◌≡◌, ℕ, zero, suc, ◌+◌, ◌*◌, ◌^◌, ◌<◌, ◌≤◌, List, [], ◌∷◌, ◌++◌, length, get_or, take, drop, refl, sym, ap, append_assoc, arith}
use Rattle.std.specs.List.{flat_map, AllByRecursion}
use Rattle.std.proofs.lemmas.List.{take_at, drop_at, length-append, length-take, length-drop, get_or-drop, get_or-take, get_or_past}
use Rattle.std.proofs.lemmas.Bool.{cases_lt}
use Rattle.std.proofs.lemmas.Nat.{be_bytes_2, be_bytes_4, le_bytes_2, le_bytes_4, from_be_bytes-to_be_bytes_2, from_be_bytes-to_be_bytes_4, from_le_bytes-to_le_bytes_2, from_le_bytes-to_le_bytes_4}
use Rattle.std.proofs.Common.{inl, inr}
use Rattle.std.proofs.Math.Seq.{take-add}
use Rattle.btf_model.specs.Word.{word, word_of, half, half_of, words_at}
use Rattle.btf_model.specs.declared.endianness.Endianness.{Endianness}
use Rattle.btf_model.specs.declared.endianness.Endianness.TheVariants.{Little, Big}

-- each element is a byte
abbrev pub IsBytes : List ℕ → Type 0
IsBytes bytes = (i : ℕ) → get_or bytes i 0 < 256

pub IsBytes-drop : (n : ℕ) (bytes : List ℕ) → IsBytes bytes → IsBytes (drop n bytes)
IsBytes-drop n bytes h i = rw get_or-drop (h (n + i))

pub IsBytes-take : (n : ℕ) (bytes : List ℕ) → IsBytes bytes → IsBytes (take n bytes)
IsBytes-take n bytes h i =
    elim (cases_lt i n) [
      | inl lt ↦ rw (get_or-take n bytes i 0 lt) (h i)
      | inr le ↦ rw (get_or_past (take n bytes) i 0 (omega (arith, length-take n bytes))) (omega arith)
    ]

pub length-word : (order : Endianness) (n : ℕ) → length (word order n) ≡ 4
length-word Little n = refl
length-word Big n = refl

pub length-half : (order : Endianness) (n : ℕ) → length (half order n) ≡ 2
length-half Little n = refl
length-half Big n = refl

-- a word that is written is read back
pub word_of-word : (order : Endianness) (n : ℕ) → n < 2 ^ 32 → word_of order (word order n) ≡ n
word_of-word Little n lt = from_le_bytes-to_le_bytes_4 n lt
word_of-word Big n lt = from_be_bytes-to_be_bytes_4 n lt

pub half_of-half : (order : Endianness) (n : ℕ) → n < 2 ^ 16 → half_of order (half order n) ≡ n
half_of-half Little n lt = from_le_bytes-to_le_bytes_2 n lt
half_of-half Big n lt = from_be_bytes-to_be_bytes_2 n lt

-- four bytes are the word of their number
pub word-word_of : (order : Endianness) (bytes : List ℕ) → length bytes ≡ 4 → IsBytes bytes → word order (word_of order bytes) ≡ bytes
word-word_of Little bytes len fits = le_bytes_4 bytes _ len fits refl
word-word_of Big bytes len fits = be_bytes_4 bytes _ len fits refl

pub half-half_of : (order : Endianness) (bytes : List ℕ) → length bytes ≡ 2 → IsBytes bytes → half order (half_of order bytes) ≡ bytes
half-half_of Little bytes len fits = le_bytes_2 bytes _ len fits refl
half-half_of Big bytes len fits = be_bytes_2 bytes _ len fits refl

pub word_of_below : (order : Endianness) (bytes : List ℕ) → IsBytes bytes → word_of order bytes < 2 ^ 32
word_of_below Little bytes fits = omega (arith, fits 0, fits 1, fits 2, fits 3)
word_of_below Big bytes fits = omega (arith, fits 0, fits 1, fits 2, fits 3)

pub half_of_below : (order : Endianness) (bytes : List ℕ) → IsBytes bytes → half_of order bytes < 2 ^ 16
half_of_below Little bytes fits = omega (arith, fits 0, fits 1)
half_of_below Big bytes fits = omega (arith, fits 0, fits 1)

-- ---- lists of words

pub length-words_at : (order : Endianness) (n : ℕ) (bytes : List ℕ) → length (words_at order n bytes) ≡ n
length-words_at order zero bytes = refl
length-words_at order (suc n) bytes = ap suc (length-words_at order n (drop 4 bytes))

pub length-spelled : (order : Endianness) (ws : List ℕ) → length (flat_map (word order) ws) ≡ 4 * length ws
length-spelled order [] = refl
length-spelled order (w ∷ ws) = omega (arith, length-append (word order w) (flat_map (word order) ws), length-word order w, length-spelled order ws)

-- words that are written are read back, whatever follows them
pub words_at-spelled : (order : Endianness) (ws rest : List ℕ) → AllByRecursion (λ w. w < 2 ^ 32) ws → words_at order (length ws) (flat_map (word order) ws ++ rest) ≡ ws
words_at-spelled order [] rest fits = refl
words_at-spelled order (w ∷ ws) rest fits =
    let regrouped = append_assoc (word order w) (flat_map (word order) ws) rest in
    rw (regrouped, take_at (word order w) (flat_map (word order) ws ++ rest) 4 (length-word order w), drop_at (word order w) (flat_map (word order) ws ++ rest) 4 (length-word order w), word_of-word order w fits.0, words_at-spelled order ws rest fits.1) refl

-- bytes are the words that are read from them
pub spelled-words_at : (order : Endianness) (n : ℕ) (bytes : List ℕ) → IsBytes bytes → 4 * n ≤ length bytes → flat_map (word order) (words_at order n bytes) ≡ take (4 * n) bytes
spelled-words_at order zero bytes fits le = refl
spelled-words_at order (suc n) bytes fits le =
    let len : length (take 4 bytes) ≡ 4 = omega (arith, length-take 4 bytes) in
    let first = word-word_of order (take 4 bytes) len (IsBytes-take 4 bytes fits) in
    let others = spelled-words_at order n (drop 4 bytes) (IsBytes-drop 4 bytes fits) (omega (arith, length-drop 4 bytes)) in
    let four : 4 * suc n ≡ 4 + 4 * n = omega arith in
    rw (first, others, four) (sym (take-add 4 (4 * n) bytes))

pub words_at_fit : (order : Endianness) (n : ℕ) (bytes : List ℕ) → IsBytes bytes → AllByRecursion (λ w. w < 2 ^ 32) (words_at order n bytes)
words_at_fit order zero bytes fits = tt
words_at_fit order (suc n) bytes fits = (word_of_below order (take 4 bytes) (IsBytes-take 4 bytes fits), words_at_fit order n (drop 4 bytes) (IsBytes-drop 4 bytes fits))

-- the first words of the words that are written
pub words_at-front : (order : Endianness) (m : ℕ) (ws rest : List ℕ) → AllByRecursion (λ w. w < 2 ^ 32) ws → m ≤ length ws → words_at order m (flat_map (word order) ws ++ rest) ≡ take m ws
words_at-front order zero ws rest fits le = refl
words_at-front order (suc m) [] rest fits le = absurd (omega arith)
words_at-front order (suc m) (w ∷ ws) rest fits le =
    let regrouped = append_assoc (word order w) (flat_map (word order) ws) rest in
    let le' : m ≤ length ws = omega arith in
    rw (regrouped, take_at (word order w) (flat_map (word order) ws ++ rest) 4 (length-word order w), drop_at (word order w) (flat_map (word order) ws ++ rest) 4 (length-word order w), word_of-word order w fits.0, words_at-front order m ws rest fits.1 le') refl
