-- The words of an item in an array, and what the function that reads a list returns.
use Rattle.std.specs.Prelude.{◌≡◌, ℕ, ◌*◌, ◌<◌, ◌≤◌, List, [], ◌∷◌, ◌++◌, length, take, Result, Ok, Err, MatchResult, drop}
use Rattle.std.specs.List.{flat_map}
use Rattle.btf_model.specs.Word.{words_at}
use Rattle.btf_model.specs.declared.endianness.Endianness.{Endianness}
use Rattle.btf_model.specs.Refusal.{Refusal, InvalidTypeInfo}
use Rattle.btf_plain.specs.declared.error.BtfError.TheVariants as errors
use Rattle.std.specs.Borrow.{Bor}
use Rattle.btf_plain.specs.declared.error.BtfError.{BtfError}

-- three words: those of an item, which has two or three, and then 0
abbrev pub padded : List ℕ → List ℕ
padded ws = take 3 (ws ++ 0 ∷ [])

-- items with the same number of words each, read from the front of bytes; refused if the bytes are too few
abbrev pub ReadsItems : {X : Type 0} → ℕ → (X → List ℕ) → Endianness → List ℕ → ℕ → Result (List X) Refusal → Type 0
ReadsItems width item_words order bytes count (Ok items) =
    (4 * (width * count) ≤ length bytes) × (length items ≡ count)
    × (flat_map item_words items ≡ words_at order (width * count) bytes)
ReadsItems width item_words order bytes count (Err refusal) =
    (length bytes < 4 * (width * count)) × (refusal ≡ InvalidTypeInfo)

-- The result is the item that bytes begin with and the bytes after it; it is refused if there are fewer bytes.
abbrev pub ReadsItem : {X : Type 0} → List ℕ → Endianness → ℕ → (X → List ℕ) → Result (X × Bor (List ℕ)) BtfError
    → Type 0
ReadsItem bytes endianness width words_of result =
    MatchResult result (λ x. (4 * width ≤ length bytes) × (words_of x.0 ≡ words_at endianness width bytes)
    × (x.1.now ≡ drop (4 * width) bytes)) (λ e. (length bytes < 4 * width) × (e ≡ errors.InvalidTypeInfo))
