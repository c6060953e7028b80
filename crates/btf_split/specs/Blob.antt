-- What the functions that read and write the parts of a blob return.
use Rattle.std.specs.Prelude.{ℕ, List, [], ◌∷◌, ◌++◌, take, length, ◌+◌, ◌≤◌, ◌≡◌}
use Rattle.std.specs.List.{flat_map}
use Rattle.btf_model.specs.declared.endianness.Endianness.{Endianness}
use Rattle.btf_model.specs.Word.{word}
use Rattle.btf_model.specs.Blob.{header_len}
use Rattle.btf_model.specs.Blob as model
use Rattle.btf_model.specs.Table.{Table, strip}
use Rattle.btf_split_model.specs.Split.{IsJoined, Extends}

-- The header that is written: these four bytes, which are magic, version and flags; its length; the types first, and
-- the strings after them.
abbrev pub written_header : Endianness → List ℕ → ℕ → ℕ → List ℕ
written_header order front types strings =
    take 4 front ++ flat_map (word order) (header_len ∷ 0 ∷ types ∷ types ∷ strings ∷ [])

-- The section whose offset and length are at this place in the header is inside the blob.
abbrev pub HoldsSection : List ℕ → ℕ → Endianness → Type 0
HoldsSection blob offset_at endianness =
    model.word_at endianness 4 blob + model.word_at endianness offset_at blob + model.word_at endianness
    (offset_at + 4) blob ≤ length blob

-- the bytes of that section
abbrev pub held_section : List ℕ → ℕ → Endianness → List ℕ
held_section blob offset_at endianness =
    model.slice (model.word_at endianness 4 blob + model.word_at endianness offset_at blob)
    (model.word_at endianness (offset_at + 4) blob) blob

-- Over any base that the table begins with, the bytes are parsed as the table again, without its fallbacks.
abbrev pub JoinsAgain : Table → ℕ → ℕ → List ℕ → Type 0
JoinsAgain table base_types base_strings bytes =
    (base : Table) → Extends base table → length base.records ≡ base_types → length base.strings ≡ base_strings
    → IsJoined table.order base bytes (strip table)
