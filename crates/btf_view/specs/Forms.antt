-- Types in the form that C reads, and values that a call writes to a buffer.
-- Source: the kernel's BTF documentation, "Type Encoding", `struct btf_type`.
use Rattle.std.specs.Prelude.{◌≡◌, ◌≤◌, ◌<◌, ◌+◌, ℕ, List, ◌++◌, map, take, drop, length, Option, Some, None, Result, Ok, Err}
use Rattle.btf_model.specs.Record.{Record, kind_number}
use Rattle.btf_model.specs.Refusal.{Refusal}
use Rattle.btf_plain.specs.Error.{refusal_of}
use Rattle.btf_plain.specs.declared.error.BtfError.{BtfError}
use Rattle.btf_view.specs.declared.forms.TypeWords.{TypeWords}

-- the kind and the first words of a record
abbrev pub words_in : Record → TypeWords
words_in r = record { kind = kind_number r.info; name_offset = r.name; info = r.info; size_or_type = r.third }

-- A buffer begins with these values, whose number is count, and the rest of it is unchanged.
abbrev pub Begins : {X : Type 0} → List X → List X → List X → ℕ → Type 0
Begins items old new count = (count ≡ length items) × (new ≡ items ++ drop count old)

-- The buffer begins with the first words of the types from an id on, as many as fit.
abbrev pub ListsTypes : List Record → ℕ → List TypeWords → List TypeWords → ℕ → Type 0
ListsTypes records first old new count = Begins (take (length old) (drop first (map words_in records))) old new count

-- The outcomes of writing items to a buffer: items that meet P are written, as many as fit; or an error that meets P,
-- and the buffer is unchanged.
abbrev pub ListsItems : {X : Type 0} → List X → List X → Result ℕ BtfError → (Result (List X) Refusal → Type 0) → Type 0
ListsItems {X} old new (Ok count) P = (items : List X) × Begins (take (length old) items) old new count × P (Ok items)
ListsItems old new (Err error) P =
    (new ≡ old) × (refusal : Refusal) × (refusal_of error ≡ Some refusal) × P (Err refusal)

-- The outcomes of writing items to a buffer from an index on: all of them are written, and the rest of the buffer is
-- unchanged; or they do not fit.
abbrev pub HasAppended : {X : Type 0} → List X → List X → List X → ℕ → Option ℕ → Type 0
HasAppended items old new at (Some count) =
    (count ≡ length items) × (at + count ≤ length old) × (new ≡ take at old ++ (items ++ drop (at + count) old))
HasAppended items old new at None = (length old < at + length items) × (new ≡ old)
