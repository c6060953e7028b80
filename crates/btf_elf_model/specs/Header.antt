-- The file header, and words of 64 bits.
-- Source: ELF gABI, chapter 4 "Object Files", "ELF Header" and "ELF Identification", the 64-bit structures.
use Rattle.std.specs.Prelude.{ℕ, ◌==◌, List, [], ◌∷◌, take, slice_index, if◌then◌else◌}
use Rattle.std.specs.Int.{w64}
use Rattle.btf_model.specs.Word.{number_of, half_of}
use Rattle.btf_model.specs.Blob.{slice, word_at}
use Rattle.btf_model.specs.declared.endianness.Endianness.{Endianness}
use Rattle.btf_model.specs.declared.endianness.Endianness.TheVariants.{Little, Big}
use Rattle.btf_elf_model.specs.declared.file_header.FileHeader.{FileHeader}

-- the half-word at a place, of 16 bits
abbrev pub half_at : Endianness → ℕ → List ℕ → ℕ
half_at order at bytes = half_of order (slice at 2 bytes)

-- the extended word at a place, of 64 bits
abbrev pub xword_at : Endianness → ℕ → List ℕ → ℕ
xword_at order at bytes = number_of w64 order (slice at 8 bytes)

-- EI_MAG0 to EI_MAG3: the bytes that each object begins with, 0x7f and "ELF"
abbrev pub magic : List ℕ
magic = 0x7f ∷ 0x45 ∷ 0x4c ∷ 0x46 ∷ []

-- the length of the file header in bytes, and that of a section header
abbrev pub file_header_len : ℕ
file_header_len = 64

-- EI_CLASS: 2, ELFCLASS64, for 64-bit objects
abbrev pub class_of : List ℕ → ℕ
class_of bytes = slice_index bytes 4

-- EI_DATA: 1, ELFDATA2LSB, for little-endian words; 2, ELFDATA2MSB, for big-endian ones
abbrev pub elf_encoding : List ℕ → ℕ
elf_encoding bytes = slice_index bytes 5

-- EI_VERSION: 1, EV_CURRENT
abbrev pub identification_version : List ℕ → ℕ
identification_version bytes = slice_index bytes 6

-- the byte order of all words of an object
abbrev pub order_of : List ℕ → Endianness
order_of bytes = if elf_encoding bytes == 2 then Big else Little

-- the file header that bytes begin with, in a byte order
abbrev pub header_in : Endianness → List ℕ → FileHeader
header_in order bytes = record {
  order = order;
  os_abi = slice_index bytes 7;
  abi_version = slice_index bytes 8;
  kind = half_at order 16 bytes;
  machine = half_at order 18 bytes;
  version = word_at order 20 bytes;
  entry = xword_at order 24 bytes;
  program_headers = xword_at order 32 bytes;
  section_headers = xword_at order 40 bytes;
  flags = word_at order 48 bytes;
  header_size = half_at order 52 bytes;
  program_header_size = half_at order 54 bytes;
  program_header_count = half_at order 56 bytes;
  section_header_size = half_at order 58 bytes;
  section_header_count = half_at order 60 bytes;
  section_names = half_at order 62 bytes;
}

-- the first 64 bytes
abbrev pub front : List ℕ → List ℕ
front bytes = take file_header_len bytes

-- the file header that bytes begin with, in their own byte order
unfoldable pub file_header : List ℕ → FileHeader
file_header bytes = header_in (order_of (front bytes)) (front bytes)
