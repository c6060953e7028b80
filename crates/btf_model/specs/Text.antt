-- Names: the text at an offset of the string section, and the type that has a given name.
-- Source: the kernel's BTF documentation, "String Section", whose texts end at a zero byte. Bytes that are not UTF-8
-- are read as by Rust's `String::from_utf8_lossy`, which aya-obj calls. The search is aya-obj's
-- `Btf::id_by_type_name_kind`.
use Rattle.std.specs.Prelude.{◌≡◌, ◌≢◌, ◌⊎◌, ℕ, ◌<◌, ◌==◌, Bool, List, length, take, drop, position, option_map, slice_get, Option, Some, None, Result, Ok, Err}
use Rattle.std.specs.Str.{encode_utf8_all}
use Rattle.bstr.specs.Utf8.{lossy_chars}
use Rattle.btf_model.specs.Record.{Kind, Record, kind_of}
use Rattle.btf_model.specs.Refusal.{Refusal, InvalidStringOffset, UnknownBtfTypeName}

-- the byte that ends a text
abbrev pub is_zero : ℕ → Bool
is_zero byte = byte == 0

-- The bytes from an offset up to the first zero byte; none if there is no zero byte at the offset or after it.
abbrev pub bytes_at : List ℕ → ℕ → Option (List ℕ)
bytes_at strings offset = option_map (λ end. take end (drop offset strings)) (position is_zero (drop offset strings))

-- The text that bytes are read as: valid UTF-8 is unchanged, and U+FFFD replaces each maximal invalid piece.
abbrev pub lossy : List ℕ → List ℕ
lossy bytes = encode_utf8_all (lossy_chars bytes)

-- the text of the bytes, or a refusal if there are none
abbrev pub text_of : ℕ → Option (List ℕ) → Result (List ℕ) Refusal
text_of offset (Some bytes) = Ok (lossy bytes)
text_of offset None = Err (InvalidStringOffset offset)

-- The text at a string offset.
abbrev pub text_at : List ℕ → ℕ → Result (List ℕ) Refusal
text_at strings offset = text_of offset (bytes_at strings offset)

-- ---- the type of a name

-- A record that the search for this kind and name skips: it has another kind, or a readable name that is different.
abbrev pub IsPassed : List ℕ → Kind → List ℕ → Record → Type 0
IsPassed strings k name r =
    (kind_of r.info ≢ Some k) ⊎ ((other : List ℕ) × (text_at strings r.name ≡ Ok other) × (other ≢ name))

-- The search skips all ids below this one.
abbrev pub ArePassed : List ℕ → List Record → Kind → List ℕ → ℕ → Type 0
ArePassed strings records k name id =
    (low : ℕ) (r : Record) → low < id → slice_get records low ≡ Some r → IsPassed strings k name r

-- The search reaches an id: its record is r, which has this kind, and all lower ids are skipped.
abbrev pub IsReached : List ℕ → List Record → Kind → List ℕ → ℕ → Record → Type 0
IsReached strings records k name id r =
    ArePassed strings records k name id × (slice_get records id ≡ Some r) × (kind_of r.info ≡ Some k)

-- The result of the search is the least id that has the kind and the name. It fails if the search reaches a record of
-- that kind whose name cannot be read, or if no record has the kind and the name.
abbrev pub FindsName : List ℕ → List Record → Kind → List ℕ → Result ℕ Refusal → Type 0
FindsName strings records k name (Ok id) =
    (r : Record) × IsReached strings records k name id r × (text_at strings r.name ≡ Ok name)
FindsName strings records k name (Err refusal) =
    ((id : ℕ) × (r : Record) × IsReached strings records k name id r × (text_at strings r.name ≡ Err refusal))
    ⊎ (ArePassed strings records k name (length records) × (refusal ≡ UnknownBtfTypeName name))
