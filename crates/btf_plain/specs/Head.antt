-- The head and the tail of a record: the words that a record begins with, and the words after them.
use Rattle.std.specs.Prelude.{◌≡◌, ℕ, ◌*◌, ◌<◌, ◌≤◌, List, length, take, drop, Result, Ok, Err, MatchResult}
use Rattle.btf_model.specs.Word.{word_of, words_at}
use Rattle.btf_model.specs.declared.endianness.Endianness.{Endianness}
use Rattle.btf_model.specs.Record.{Kind, Record, vlen, tail_words}
use Rattle.btf_model.specs.Refusal.{Refusal, InvalidTypeInfo}
use Rattle.btf_model.specs.Spelling.{kept}
use Rattle.btf_plain.specs.declared.head.Head.{Head}
use Rattle.btf_plain.specs.declared.error.BtfError.TheVariants as errors
use Rattle.std.specs.Borrow.{Bor}
use Rattle.btf_plain.specs.declared.error.BtfError.{BtfError}

-- the head is the first three words of the bytes, and rest is the bytes after them
pub record IsHead (order : Endianness) (bytes : List ℕ) (head : Head) (rest : List ℕ) : Type 0 where
  pub long : 12 ≤ length bytes
  pub name : head.name ≡ word_of order (take 4 bytes)
  pub info : head.info ≡ word_of order (take 4 (drop 4 bytes))
  pub third : head.third ≡ word_of order (take 4 (drop 4 (drop 4 bytes)))
  pub behind : rest ≡ drop 4 (drop 4 (drop 4 bytes))

-- the record that consists of a head and a tail
abbrev pub headed : Head → List ℕ → Record
headed head tail = record { name = head.name; info = head.info; third = head.third; tail = tail }

-- the record that consists of the head and the first words after it
abbrev pub record_after : Endianness → Head → ℕ → List ℕ → Record
record_after order head n rest = headed head (words_at order n rest)

-- what reading retains of a number of words at the front of bytes; refused if the bytes are too few
abbrev pub ReadsWords : (List ℕ → List ℕ) → ℕ → Endianness → List ℕ → Result (List ℕ) Refusal → Type 0
ReadsWords kept n order bytes (Ok ws) = (4 * n ≤ length bytes) × (ws ≡ kept (words_at order n bytes))
ReadsWords kept n order bytes (Err refusal) = (length bytes < 4 * n) × (refusal ≡ InvalidTypeInfo)

-- what reading retains of the record that consists of the head and the words after it; refused if these words are
-- truncated
abbrev pub ReadsTail : Endianness → Head → Kind → List ℕ → Result Record Refusal → Type 0
ReadsTail order head k rest (Ok r) =
    (4 * tail_words k (vlen head.info) ≤ length rest)
    × (r ≡ kept k (record_after order head (tail_words k (vlen head.info)) rest))
ReadsTail order head k rest (Err refusal) =
    (length rest < 4 * tail_words k (vlen head.info)) × (refusal ≡ InvalidTypeInfo)

-- The result is the word that bytes begin with and the bytes after it; it is refused if there are fewer bytes.
abbrev pub SplitsWord : List ℕ → Endianness → Result (ℕ × Bor (List ℕ)) BtfError → Type 0
SplitsWord bytes endianness result =
    MatchResult result (λ x. (4 ≤ length bytes) × (x.0 ≡ word_of endianness (take 4 bytes))
    × (x.1.now ≡ drop 4 bytes)) (λ e. (length bytes < 4) × (e ≡ errors.InvalidTypeInfo))
