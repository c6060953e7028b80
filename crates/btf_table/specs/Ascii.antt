-- Texts that are pure ASCII.
use Rattle.std.specs.Prelude.{◌≡◌, ◌≢◌, ℕ, ◌<◌, ◌≤◌, ◌==◌, ◌||◌, Bool, leb, if◌then◌else◌, List, length, take, get_or}
use Rattle.std.specs.Int.{w64, trailing_zeros}
use Rattle.btf_model.specs.Text.{is_zero}

-- The text at the front of the bytes ends here, with a zero byte, and is pure ASCII.
pub record IsAsciiEnd (bytes : List ℕ) (end : ℕ) : Type 0 where
  pub within : end < length bytes
  pub stops : get_or bytes end 0 ≡ 0
  pub ascii : (k : ℕ) → k < end → (get_or bytes k 0 ≢ 0) × (get_or bytes k 0 < 128)

-- The text at the front of the bytes is this one, and is pure ASCII.
abbrev pub IsAsciiText : List ℕ → List ℕ → Type 0
IsAsciiText bytes text = (end : ℕ) × IsAsciiEnd bytes end × (text ≡ take end bytes)

-- This number of bytes at the front are ASCII, and none of them is zero.
pub record BeginsAscii (bytes : List ℕ) (ascii : ℕ) : Type 0 where
  pub within : ascii ≤ length bytes
  pub each : (k : ℕ) → k < ascii → (get_or bytes k 0 ≢ 0) × (get_or bytes k 0 < 128)

-- The index of the lowest bit that is set, or the number of bits if none is set.
abbrev pub lowest_bit : ℕ → ℕ → ℕ
lowest_bit mask bits = if mask == 0 then bits else trailing_zeros w64 mask

-- The byte ends a text, or it is not ASCII.
abbrev pub ends_plain : ℕ → Bool
ends_plain b = is_zero b || leb 128 b
