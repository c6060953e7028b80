-- The items of a type, in the form that C reads.
-- Source: the kernel's BTF documentation, "Type Encoding": what follows `struct btf_type` for each kind.
use Rattle.std.specs.Prelude.{◌≡◌, ◌<◌, ◌≤◌, ◌*◌, ℕ, List, take, drop, length, Option, Some, None, Result, Ok, Err, slice_get}
use Rattle.btf_model.specs.Record.{Kind, Record, kind_of, tail_words, vlen}
use Rattle.btf_model.specs.Refusal.{Refusal, UnknownBtfType}
use Rattle.vbtf.specs.declared.items.Item.{Item}
use Rattle.vbtf.specs.declared.items.Words.{Words}

-- The first words of an array, by their count, are the words of an item.
abbrev pub HasWords : ℕ → List ℕ → List ℕ → Type 0
HasWords count words item = (count ≡ length item) × (take count words ≡ item)

-- A number of words are cut into groups of the same width. This is the group of an index, or None if there is none.
abbrev pub IsGroup : ℕ → ℕ → List ℕ → ℕ → Option Words → Type 0
IsGroup width total words index (Some found) =
    (width * index < total) × HasWords found.count found.words (take width (drop (width * index) words))
IsGroup width total words index None = total ≤ width * index

-- The item of an index of a record of this kind: the words of one item, out of the words of vlen items.
abbrev pub IsItem : Kind → Record → ℕ → Option Words → Type 0
IsItem k r = IsGroup (tail_words k 1) (tail_words k (vlen r.info)) r.tail

-- an item without its info word
abbrev pub words_alone : Item → Words
words_alone item = record { count = item.count; words = item.words }

-- The item of an index of the type of an id; None if the type has no such item; or the error if there is no such type.
abbrev pub ItemOf : List Record → ℕ → ℕ → Result (Option Item) Refusal → Type 0
ItemOf records id index (Ok (Some item)) =
    (k : Kind) × (r : Record) × (slice_get records id ≡ Some r) × (kind_of r.info ≡ Some k)
    × (item.info ≡ r.info) × IsItem k r index (Some (words_alone item))
ItemOf records id index (Ok None) =
    (k : Kind) × (r : Record) × (slice_get records id ≡ Some r) × (kind_of r.info ≡ Some k) × IsItem k r index None
ItemOf records id index (Err refusal) = (length records ≤ id) × (refusal ≡ UnknownBtfType id)
