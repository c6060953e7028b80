-- The offsets at which a text of the strings can be read.
use Rattle.std.specs.Prelude.{◌≡◌, ◌≢◌, ℕ, ◌<◌, ◌≤◌, List, ◌∷◌, ◌++◌, length, drop, get_or, Ok, Err, IfSome, Result}
use Rattle.btf_model.specs.Refusal.{InvalidStringOffset}
use Rattle.btf_model.specs.Text.{text_at}
use Rattle.btf_model.specs.Text as model
use Rattle.btf_plain.specs.declared.error.BtfError.{BtfError}
use Rattle.btf_table.specs.declared.table.text.BtfStr.{BtfStr}
use Rattle.std.specs.Str.{IsUtf8}
use Rattle.btf_plain.specs.Error.{Meets}
use Rattle.btf_table.specs.BtfStr.{text_bytes}

-- A text can be read at the offsets below the end, and at no other.
pub record IsReadableEnd (strings : List ℕ) (end : ℕ) : Type 0 where
  pub below : (offset : ℕ) → offset < end → (text : List ℕ) × (text_at strings offset ≡ Ok text)
  pub from : (offset : ℕ) → end ≤ offset → text_at strings offset ≡ Err (InvalidStringOffset offset)

-- The bytes at an offset are this name and a zero byte.
abbrev pub HasNameAt : List ℕ → ℕ → List ℕ → Type 0
HasNameAt strings offset name = (rest : List ℕ) × (drop offset strings ≡ name ++ 0 ∷ rest)

-- A name that can be compared with the bytes of a text: it has no zero byte, and no byte with which U+FFFD begins,
-- because U+FFFD replaces bytes that are not UTF-8.
abbrev pub IsComparable : List ℕ → Type 0
IsComparable name = (k : ℕ) → k < length name → (get_or name k 0 ≢ 0) × (get_or name k 0 ≢ 0xEF)

-- If the bytes at an offset are UTF-8, the result is their text, and no allocation can fail.
abbrev pub ReadsWithoutMemory : List ℕ → ℕ → Result BtfStr BtfError → Type 0
ReadsWithoutMemory strings offset result =
    IfSome (model.bytes_at strings offset) IsUtf8
    → Meets text_bytes result (λ answer. answer ≡ model.text_at strings offset)
