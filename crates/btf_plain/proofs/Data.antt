-- The data word of an INT, composed of its three parts.
use Rattle.std.proofs.Common.{◌≡◌, ℕ, ◌+◌, ◌*◌, ◌%◌, ◌^◌, ◌<◌, ap, ◌∙◌, arith, bit_and, bit_or}
use Rattle.std.proofs.lemmas.Nat.{and_mask, or_shifted, shl_whole}
use Rattle.btf_plain.specs.declared.encoding.IntEncoding.{IntEncoding}
use Rattle.btf_plain.specs.declared.encoding.IntEncoding.TheVariants as encodings
use Rattle.btf_plain.specs.Encoding.{int_data, encoding_number}

pub data_of_parts : (encoding offset bits : ℕ) → encoding < 2 ^ 8 → bit_or (bit_or (encoding * 2 ^ 24 % 2 ^ 32) (bit_and offset 255 * 2 ^ 16 % 2 ^ 32)) (bit_and bits 255) ≡ int_data encoding (offset % 2 ^ 8) (bits % 2 ^ 8)
data_of_parts encoding offset bits lt =
    let low : bits % 2 ^ 8 < 2 ^ 16 = omega arith in
    let mid : offset % 2 ^ 8 * 2 ^ 16 < 2 ^ 24 = omega arith in
    let x = offset % 2 ^ 8 in
    let high : encoding * 2 ^ 24 % 2 ^ 32 ≡ encoding * 2 ^ 24 = shl_whole encoding 8 24 32 lt (omega arith) in
    let middle : x * 2 ^ 16 % 2 ^ 32 ≡ x * 2 ^ 16 = shl_whole x 8 16 32 (omega arith) (omega arith) in
    let both : bit_or (encoding * 2 ^ 24) (x * 2 ^ 16) ≡ (encoding * 2 ^ 8 + x) * 2 ^ 16 = or_shifted encoding 24 (x * 2 ^ 16) mid ∙ omega arith in
    rw (and_mask offset 8, and_mask bits 8, high, middle, both, or_shifted (encoding * 2 ^ 8 + x) 16 (bits % 2 ^ 8) low) (omega arith)

-- an encoding has a small number
small_number : (e : IntEncoding) → encoding_number e < 2 ^ 8
small_number encodings.None = omega arith
small_number encodings.Signed = omega arith
small_number encodings.Char = omega arith
small_number encodings.Bool = omega arith
small_number encodings.Unknown = omega arith

-- the data word of a new INT
pub new_data : (e : IntEncoding) (n offset size : ℕ) → n ≡ encoding_number e
    → bit_or (bit_or (n * 2 ^ 24 % 2 ^ 32) (bit_and offset 255 * 2 ^ 16 % 2 ^ 32)) (bit_and (size * 8 % 2 ^ 32) 255) ≡ int_data (encoding_number e) (offset % 2 ^ 8) (size * 8 % 2 ^ 8)
new_data e n offset size is =
    let low : size * 8 % 2 ^ 32 % 2 ^ 8 ≡ size * 8 % 2 ^ 8 = omega arith in
    rw is (data_of_parts (encoding_number e) offset (size * 8 % 2 ^ 32) (small_number e) ∙ ap (int_data (encoding_number e) (offset % 2 ^ 8)) low)
