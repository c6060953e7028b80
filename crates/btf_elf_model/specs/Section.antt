-- Section headers, the contents of sections, and string tables.
-- Source: ELF gABI, chapter 4, "Sections", "Special Sections", "String Table"; "ELF Header" for e_shnum and e_shstrndx.
use Rattle.std.specs.Prelude.{ℕ, ◌+◌, ◌-◌, ◌*◌, ◌==◌, ◌||◌, ◌&&◌, not, nat_lt, max, Bool, List, [], ◌∷◌, length, drop, map, slice_get, slice_index, if◌then◌else◌, Option, Some, None}
use Rattle.std.specs.List.{before_first}
use Rattle.std.specs.Option.{option_and_then}
use Rattle.std.specs.Simd.{first_chunks}
use Rattle.btf_model.specs.Blob.{slice, word_at}
use Rattle.btf_model.specs.declared.endianness.Endianness.{Endianness}
use Rattle.btf_elf_model.specs.Header.{xword_at, file_header_len, file_header}
use Rattle.btf_elf_model.specs.declared.file_header.FileHeader.{FileHeader}
use Rattle.btf_elf_model.specs.declared.section_header.SectionHeader.{SectionHeader}

-- the section header that 64 bytes spell
unfoldable pub section_header : Endianness → List ℕ → SectionHeader
section_header order entry = record {
  name = word_at order 0 entry;
  kind = word_at order 4 entry;
  flags = xword_at order 8 entry;
  address = xword_at order 16 entry;
  offset = xword_at order 24 entry;
  size = xword_at order 32 entry;
  link = word_at order 40 entry;
  info = word_at order 44 entry;
  alignment = xword_at order 48 entry;
  entry_size = xword_at order 56 entry;
}

-- the first section headers, as many as these, of a table that begins at e_shoff
unfoldable pub headers_of : FileHeader → ℕ → List ℕ → List SectionHeader
headers_of h count bytes = map (section_header h.order) (first_chunks file_header_len count (drop h.section_headers bytes))

-- sh_size of section 0
abbrev pub size_of_first : FileHeader → List ℕ → ℕ
size_of_first h bytes = (section_header h.order (slice h.section_headers file_header_len bytes)).size

-- The number of sections: 0 without a table of section headers; else e_shnum, or sh_size of section 0 if e_shnum is 0.
unfoldable pub section_count : FileHeader → List ℕ → ℕ
section_count h bytes =
    if h.section_headers == 0 then 0
    else (if h.section_header_count == 0 then size_of_first h bytes else h.section_header_count)

-- the end of the table of section headers, which has at least the header of section 0
abbrev pub table_end : FileHeader → List ℕ → ℕ
table_end h bytes = h.section_headers + file_header_len * max 1 (section_count h bytes)

-- the section headers of bytes
unfoldable pub headers_in : List ℕ → List SectionHeader
headers_in bytes = let h = file_header bytes in headers_of h (section_count h bytes) bytes

-- ---- contents

-- SHT_NULL, SHT_SYMTAB, SHT_STRTAB, SHT_NOBITS: the types of sections that the definitions distinguish
abbrev pub sht_null : ℕ
sht_null = 0

abbrev pub sht_symtab : ℕ
sht_symtab = 2

abbrev pub sht_strtab : ℕ
sht_strtab = 3

abbrev pub sht_nobits : ℕ
sht_nobits = 8

-- The file has bytes of the section: its type is neither SHT_NULL nor SHT_NOBITS.
abbrev pub has_bytes : SectionHeader → Bool
has_bytes s = not (s.kind == sht_null) && not (s.kind == sht_nobits)

-- the bytes of a section in the file
unfoldable pub contents : List ℕ → SectionHeader → List ℕ
contents bytes s = if has_bytes s then slice s.offset s.size bytes else []

-- The section ends after the end of a file of this length.
unfoldable pub is_past_end : ℕ → SectionHeader → Bool
is_past_end len s = has_bytes s && nat_lt len (s.offset + s.size)

-- The section shares bytes with the file header, or with the table of section headers, which has this start and end.
unfoldable pub is_over_headers : ℕ → ℕ → SectionHeader → Bool
is_over_headers table end s =
    has_bytes s && nat_lt 0 s.size
    && (nat_lt s.offset file_header_len || (nat_lt s.offset end && nat_lt table (s.offset + s.size)))

-- ---- string tables

-- the byte that ends a name
abbrev pub ends_name : ℕ → Bool
ends_name byte = byte == 0

-- A string table is empty, or begins and ends with a zero byte.
unfoldable pub is_string_table : List ℕ → Bool
is_string_table strings =
    (length strings == 0) || (ends_name (slice_index strings 0) && ends_name (slice_index strings (length strings - 1)))

-- A name begins at the offset: the offset is within the table, or it is 0, which is the empty name in an empty table.
abbrev pub is_name_offset : List ℕ → ℕ → Bool
is_name_offset strings offset = (offset == 0) || nat_lt offset (length strings)

-- the name at an offset: the bytes from there up to the first zero byte
unfoldable pub string_from : List ℕ → ℕ → List ℕ
string_from strings offset = before_first ends_name (drop offset strings)

-- the string table in a section; none if the section has another type, or its bytes are no string table
abbrev pub strings_in : List ℕ → SectionHeader → Option (List ℕ)
strings_in bytes s =
    if (s.kind == sht_strtab) && is_string_table (contents bytes s) then Some (contents bytes s) else None

-- The string table that an index names. Index 0, SHN_UNDEF, names an empty one.
unfoldable pub string_table : List ℕ → List SectionHeader → ℕ → Option (List ℕ)
string_table bytes sections index =
    if index == 0 then Some [] else option_and_then (strings_in bytes) (slice_get sections index)

-- sh_link of section 0
abbrev pub link_of_first : List SectionHeader → ℕ
link_of_first [] = 0
link_of_first (s ∷ _) = s.link

-- The index of the section with the names of sections: e_shstrndx, or sh_link of section 0 if e_shstrndx is SHN_XINDEX.
unfoldable pub names_index : FileHeader → List SectionHeader → ℕ
names_index h sections = if h.section_names == 0xffff then link_of_first sections else h.section_names
