-- The data word of an INT.
-- Source: the kernel's BTF documentation, "BTF_KIND_INT".
use Rattle.std.specs.Prelude.{ℕ, ◌+◌, ◌*◌, ◌/◌, ◌%◌, ◌^◌, ◌==◌, if◌then◌else◌}
use Rattle.btf_plain.specs.declared.encoding.IntEncoding.{IntEncoding}
use Rattle.btf_plain.specs.declared.encoding.IntEncoding.TheVariants.{None, Signed, Char, Bool, Unknown}

-- the number of an encoding
abbrev pub encoding_number : IntEncoding → ℕ
encoding_number None = 0
encoding_number Signed = 1
encoding_number Char = 2
encoding_number Bool = 4
encoding_number Unknown = 5

-- the encoding of a number: each number other than these four is Unknown
abbrev pub encoding_of : ℕ → IntEncoding
encoding_of n =
    if n == 0 then None else (if n == 1 then Signed else (if n == 2 then Char else (if n == 4 then Bool else Unknown)))

-- The data word: the encoding in bits 24 to 27, the bit offset in bits 16 to 23, the number of bits in bits 0 to 7.
abbrev pub int_data : ℕ → ℕ → ℕ → ℕ
int_data encoding offset bits = encoding * 2 ^ 24 + offset * 2 ^ 16 + bits

-- the encoding of an INT, by its data word
abbrev pub encoding_bits : ℕ → ℕ
encoding_bits word = word / 2 ^ 24 % 2 ^ 4

-- the bit at which the integer begins, by the data word
abbrev pub offset_bits : ℕ → ℕ
offset_bits word = word / 2 ^ 16 % 2 ^ 8

-- the number of bits of the integer, by the data word
abbrev pub size_bits : ℕ → ℕ
size_bits word = word % 2 ^ 8
