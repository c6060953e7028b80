-- Words: numbers and their bytes in an order.
-- Source: the kernel's BTF documentation, which writes each word in the byte order of the machine that a blob is for.
use Rattle.std.specs.Prelude.{ℕ, zero, suc, List, [], ◌∷◌, take, drop}
use Rattle.std.specs.Int.{Width, w16, w32, to_le_bytes, to_be_bytes, from_le_bytes, from_be_bytes}
use Rattle.btf_model.specs.declared.endianness.Endianness.{Endianness}
use Rattle.btf_model.specs.declared.endianness.Endianness.TheVariants.{Little, Big}

-- the bytes of a number of this width, in an order
abbrev pub bytes_of : Width → Endianness → ℕ → List ℕ
bytes_of w Little n = to_le_bytes w n
bytes_of w Big n = to_be_bytes w n

-- the number that these bytes encode, in an order
abbrev pub number_of : Width → Endianness → List ℕ → ℕ
number_of w Little bytes = from_le_bytes w bytes
number_of w Big bytes = from_be_bytes w bytes

-- a word is 32 bits
abbrev pub word : Endianness → ℕ → List ℕ
word order n = bytes_of w32 order n

-- the number of the four bytes of a word
abbrev pub word_of : Endianness → List ℕ → ℕ
word_of order bytes = number_of w32 order bytes

-- a half-word is 16 bits; only the magic is one
abbrev pub half : Endianness → ℕ → List ℕ
half order n = bytes_of w16 order n

-- the number of two bytes
abbrev pub half_of : Endianness → List ℕ → ℕ
half_of order bytes = number_of w16 order bytes

-- the first n words of the bytes
abbrev pub words_at : Endianness → ℕ → List ℕ → List ℕ
words_at order zero bytes = []
words_at order (suc n) bytes = word_of order (take 4 bytes) ∷ words_at order n (drop 4 bytes)
