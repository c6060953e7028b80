-- The info word of a record with a list: its kind, the number of its items, and its flag.
use Rattle.std.proofs.Common.{◌≡◌, ℕ, ◌+◌, ◌*◌, ◌%◌, ◌^◌, ◌<◌, Bool, true, false, ◌∙◌, arith, bit_and, bit_or}
use Rattle.std.proofs.lemmas.Nat.{and_mask, or_shifted, or_comm}
use Rattle.btf_model.specs.Record.{kind_number, vlen}
use Rattle.btf_model.specs.Info.{flag_bit, with_flag}

-- a flag above a number of 31 bits
flag_above : (n : ℕ) (s : Bool) → n < 2 ^ 31 → bit_or n (flag_bit s) ≡ n + flag_bit s
flag_above n true lt = or_comm n (2 ^ 31) ∙ or_shifted 1 31 n lt ∙ omega arith
flag_above n false lt = or_comm n 0 ∙ omega arith

pub new_info : (k n sign : ℕ) (s : Bool) → k < 2 ^ 5 → n < 2 ^ 16 → sign ≡ flag_bit s → bit_or (bit_or (k * 2 ^ 24) n) sign ≡ k * 2 ^ 24 + n + flag_bit s
new_info k n sign s small few is =
    let low : n < 2 ^ 24 = omega arith in
    let both : bit_or (k * 2 ^ 24) n ≡ k * 2 ^ 24 + n = or_shifted k 24 n low in
    rw (is, both) (flag_above (k * 2 ^ 24 + n) s (omega arith))

pub new_kind : (k n : ℕ) (s : Bool) → k < 2 ^ 5 → n < 2 ^ 16 → kind_number (k * 2 ^ 24 + n + flag_bit s) ≡ k
new_kind k n true small few = omega arith
new_kind k n false small few = omega arith

pub new_vlen : (k n : ℕ) (s : Bool) → k < 2 ^ 5 → n < 2 ^ 16 → vlen (k * 2 ^ 24 + n + flag_bit s) ≡ n
new_vlen k n true small few = omega arith
new_vlen k n false small few = omega arith

-- the flag set or cleared
pub new_flag : (info sign : ℕ) (s : Bool) → sign ≡ flag_bit s → bit_or (bit_and info 2147483647) sign ≡ with_flag info s
new_flag info sign s is =
    let low : info % 2 ^ 31 < 2 ^ 31 = omega arith in
    rw (is, and_mask info 31) (flag_above (info % 2 ^ 31) s low)

pub same_kind : (info : ℕ) (s : Bool) → kind_number (with_flag info s) ≡ kind_number info
same_kind info true = omega arith
same_kind info false = omega arith

pub same_vlen : (info : ℕ) (s : Bool) → vlen (with_flag info s) ≡ vlen info
same_vlen info true = omega arith
same_vlen info false = omega arith

-- the same, as the code composes it
pub listed_info : (k n sign : ℕ) (s : Bool) → k < 2 ^ 5 → n < 2 ^ 16 → sign ≡ flag_bit s → bit_or (bit_or (k * 2 ^ 24 % 2 ^ 32) n) sign ≡ k * 2 ^ 24 + n + flag_bit s
listed_info k n sign s small few is =
    let whole : k * 2 ^ 24 % 2 ^ 32 ≡ k * 2 ^ 24 = omega arith in
    rw whole (new_info k n sign s small few is)
