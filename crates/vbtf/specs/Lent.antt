-- Bytes in the memory of a table, which C reads by a pointer.
use Rattle.std.specs.Prelude.{◌≡◌, ℕ, List, [], ◌∷◌, take, drop, length}
use base.Fml.{Fml, ftrue, fhide}
use denote.RawPtr.{Ptr, block_ptr, null_ptr}
use denote.Builtin.{u8}
use denote.Slice.{elements_shared}
use Rattle.btf_table.specs.Readable.{IsReadableEnd}

-- The bytes are at the pointer, and do not change during the lifetime. A null pointer has no bytes.
abbrev pub lent_bytes : Ptr → List ℕ → ℕ → Fml
lent_bytes (block_ptr b o) bytes life = fhide (elements_shared u8 bytes b o (life ∷ []))
lent_bytes null_ptr bytes life = ftrue

-- The bytes are the strings from an offset on, up to and with their last zero byte.
abbrev pub AreNamesFrom : List ℕ → ℕ → List ℕ → Type 0
AreNamesFrom strings offset bytes = (end : ℕ) × IsReadableEnd strings end × (bytes ≡ drop offset (take end strings))

-- These bytes, of this length and lent for `lasting`, are the strings from an offset on, which are lent for `life`.
abbrev pub AreLentFrom : List ℕ → ℕ → ℕ → List ℕ → ℕ → ℕ → Type 0
AreLentFrom strings life offset bytes len lasting =
    (lasting ≡ life) × AreNamesFrom strings offset bytes × (len ≡ length bytes)
