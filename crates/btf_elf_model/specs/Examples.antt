-- Worked examples of the definitions, computed.
use Rattle.std.specs.Prelude.{◌≡◌, ℕ, List, [], ◌∷◌, ◌++◌, Some, None, refl, replicate, true, false}
use Rattle.btf_elf_model.specs.Header.{xword_at, file_header}
use Rattle.btf_elf_model.specs.Section.{string_from, is_string_table, string_table, names_index, headers_of, section_count, headers_in}
use Rattle.btf_elf_model.specs.Symbols.{symbol}
use Rattle.btf_elf_model.specs.Object.{parse_error, identification_error, header_error, table_error, section_error, name_error, symbol_table_error, symbol_error}
use Rattle.btf_elf_model.specs.Replaced.{aligned}
use Rattle.btf_elf_model.specs.declared.error.ParseError.TheVariants.{NotElf, UnsupportedClass, SectionTableOutOfRange}
use Rattle.btf_model.specs.declared.endianness.Endianness.TheVariants.{Little, Big}

xword_in_both_orders :
    (xword_at Little 1 (9 ∷ 1 ∷ 2 ∷ 0 ∷ 0 ∷ 0 ∷ 0 ∷ 0 ∷ 0 ∷ []) ≡ 513)
    × (xword_at Big 0 (0 ∷ 0 ∷ 0 ∷ 0 ∷ 0 ∷ 0 ∷ 2 ∷ 1 ∷ []) ≡ 513)
xword_in_both_orders = (refl, refl)

-- the string table "\0ab\0", in which a name may begin in the middle of another
names : List ℕ
names = 0 ∷ 0x61 ∷ 0x62 ∷ 0 ∷ []

names_in_a_table :
    (string_from names 0 ≡ []) × (string_from names 1 ≡ 0x61 ∷ 0x62 ∷ []) × (string_from names 2 ≡ 0x62 ∷ [])
    × (string_from names 3 ≡ [])
unfolding names string_from
names_in_a_table = (refl, refl, refl, refl)

-- a string table is empty, or begins and ends with a zero byte
string_tables : (is_string_table names ≡ true) × (is_string_table [] ≡ true) × (is_string_table (0 ∷ 0x61 ∷ []) ≡ false)
unfolding names is_string_table
string_tables = (refl, refl, refl)

-- a global function of 16 bytes at the beginning of section 2, as a little-endian object has it
global_function :
    symbol Little (7 ∷ 0 ∷ 0 ∷ 0 ∷ 0x12 ∷ 0 ∷ 2 ∷ 0 ∷ replicate 8 0 ++ 16 ∷ replicate 7 0)
    ≡ record { name = 7; binding = 1; kind = 2; other = 0; section = 2; value = 0; size = 16 }
unfolding symbol
global_function = refl

-- a file header of 64 bytes, big-endian, for BPF, with its class and the offset of its section header table
header_with : ℕ → ℕ → List ℕ
header_with class offset =
    0x7f ∷ 0x45 ∷ 0x4c ∷ 0x46 ∷ class ∷ 2 ∷ 1 ∷ replicate 9 0
    ++ 0 ∷ 1 ∷ 0 ∷ 247 ∷ 0 ∷ 0 ∷ 0 ∷ 1 ∷ replicate 16 0
    ++ replicate 7 0 ++ offset ∷ replicate 4 0
    ++ 0 ∷ 64 ∷ 0 ∷ 0 ∷ 0 ∷ 0 ∷ 0 ∷ 64 ∷ 0 ∷ 1 ∷ 0 ∷ 0 ∷ []

header_words : ((file_header (header_with 2 0)).order ≡ Big) × ((file_header (header_with 2 0)).machine ≡ 247)
unfolding header_with file_header
header_words = (refl, refl)

-- the header alone is an object without sections
no_sections : (parse_error (header_with 2 0) ≡ None) × (headers_in (header_with 2 0) ≡ [])
unfolding header_with file_header headers_in headers_of section_count parse_error identification_error header_error table_error section_error name_error string_table names_index symbol_table_error symbol_error
no_sections = (refl, refl)

-- an object of 32 bits, bytes without the magic, and a section header table after the end
first_errors :
    (parse_error (header_with 1 0) ≡ Some (UnsupportedClass 1)) × (parse_error [] ≡ Some NotElf)
    × (parse_error (header_with 2 64) ≡ Some SectionTableOutOfRange)
unfolding header_with file_header section_count identification_error header_error table_error parse_error
first_errors = (refl, refl, refl)

-- the next multiple of an alignment
aligned_places : (aligned 1109 8 ≡ 1112) × (aligned 1096 8 ≡ 1096) × (aligned 1109 1 ≡ 1109)
aligned_places = (refl, refl, refl)
