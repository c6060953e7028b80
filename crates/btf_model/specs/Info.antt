-- Parts of an info word.
-- Source: the kernel's BTF documentation, "Type Encoding".
use Rattle.std.specs.Prelude.{ℕ, Bool, true, false, ◌+◌, ◌*◌, ◌/◌, ◌%◌, ◌^◌}

-- Bit 31, where the kind flag is set.
abbrev pub flag_bit : Bool → ℕ
flag_bit true = 2 ^ 31
flag_bit false = 0

-- The same info with n in bits 0 to 15, where n is below 2 ^ 16.
abbrev pub with_vlen : ℕ → ℕ → ℕ
with_vlen info n = info / 2 ^ 16 * 2 ^ 16 + n

-- The same info with the flag in bit 31.
abbrev pub with_flag : ℕ → Bool → ℕ
with_flag info flag = info % 2 ^ 31 + flag_bit flag
