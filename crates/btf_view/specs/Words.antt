-- The record in the bytes of a view, word by word.
use Rattle.std.specs.Prelude.{ℕ, List, [], ◌∷◌, map, min, drop, Option, Some, None}
use Rattle.btf_model.specs.declared.endianness.Endianness.{Endianness}
use Rattle.btf_model.specs.Record.{Kind, Var, Record, kind_of, vlen, tail_words, unknown}
use Rattle.btf_model.specs.Blob.{word_at}
use Rattle.btf_model.specs.Word.{words_at}
use Rattle.btf_model.specs.Spelling.{kept}
use Rattle.btf_plain.specs.Head.{headed}
use Rattle.btf_plain.specs.declared.head.Head.{Head}

-- what reading retains of the words after the third of a record of this kind
abbrev pub kept_words : Kind → List ℕ → List ℕ
kept_words Var ws = map (min 3) ws
kept_words k ws = ws

-- the record of this kind with this head, whose other words are at the front of the bytes
abbrev pub record_before : Kind → Endianness → Head → List ℕ → Record
record_before k order head bytes = headed head (kept_words k (words_at order (tail_words k (vlen head.info)) bytes))

-- the three words that bytes begin with
abbrev pub head_before : Endianness → List ℕ → Head
head_before order bytes = record { name = word_at order 0 bytes; info = word_at order 4 bytes; third = word_at order 8 bytes }

-- what reading retains of the record that bytes begin with; nothing of one whose kind the library does not read
abbrev pub read_by : Option Kind → Endianness → List ℕ → Record
read_by (Some k) order bytes = kept k (headed (head_before order bytes) (words_at order (tail_words k (vlen (word_at order 4 bytes))) (drop 12 bytes)))
read_by None order bytes = unknown

-- the record at the front of what is left of a type section; that of id 0, where nothing is left
abbrev pub front_record : Endianness → List ℕ → Record
front_record order [] = unknown
front_record order (byte ∷ bytes) = read_by (kind_of (word_at order 4 (byte ∷ bytes))) order (byte ∷ bytes)

-- the records at these places of a type section
abbrev pub records_there : Endianness → List ℕ → List ℕ → List Record
records_there order types places = map (λ place. front_record order (drop place types)) places
