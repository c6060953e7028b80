-- An object with other bytes in one section: what changes, and what does not.
-- Source: a choice of this project. The ELF gABI requires that sections don't overlap, and requires nothing of file
-- offsets.
use Rattle.std.specs.Prelude.{◌≡◌, ◌≢◌, ◌⊎◌, ℕ, ◌+◌, ◌-◌, ◌*◌, ◌%◌, ◌<◌, ◌≤◌, ◌==◌, ◌&&◌, not, nat_lt, nat_le, max, min, Bool, List, length, remove, replicate, slice_get, slice_set, if◌then◌else◌, Some}
use Rattle.std.specs.List.{list_any}
use Rattle.btf_model.specs.Blob.{slice}
use Rattle.btf_elf_model.specs.Header.{file_header_len}
use Rattle.btf_elf_model.specs.Section.{has_bytes, sht_symtab, sht_strtab}
use Rattle.btf_elf_model.specs.Object.{Object, section_bytes, name_table, symbols, symbol_names}
use Rattle.btf_elf_model.specs.declared.section_header.SectionHeader.{SectionHeader}

-- The bytes of a section can be replaced. The file has bytes of the section. It is no string table and no symbol table,
-- because names and symbols depend on these. It is not section 0, because its header may have the number of sections.
unfoldable pub is_replaceable : ℕ → SectionHeader → Bool
is_replaceable index s = nat_lt 0 index && has_bytes s && not (s.kind == sht_strtab) && not (s.kind == sht_symtab)

-- The section has one of the len bytes from an offset on.
unfoldable pub shares_bytes : ℕ → ℕ → SectionHeader → Bool
shares_bytes offset len s =
    has_bytes s && nat_lt 0 len && nat_lt 0 s.size
    && nat_lt offset (s.offset + s.size) && nat_lt s.offset (offset + len)

-- len bytes fit in the place of a section: the section has at least len bytes, and no other section has one of these
-- bytes.
unfoldable pub fits_in_place : List SectionHeader → ℕ → SectionHeader → ℕ → Bool
fits_in_place sections index s len =
    nat_le len s.size && not (list_any (shares_bytes s.offset len) (remove sections index))

-- the alignment of a section in the file: its own alignment, but at most 4096
abbrev pub alignment_of : SectionHeader → ℕ
alignment_of s = min (max 1 s.alignment) 4096

-- the least multiple of an alignment that is not below a number
abbrev pub aligned : ℕ → ℕ → ℕ
aligned n alignment = n + (if n % alignment == 0 then 0 else (alignment - n % alignment))

-- The offset for len bytes of a section: the offset of the section if they fit there, else the aligned end of the file.
unfoldable pub place : Object → ℕ → SectionHeader → ℕ → ℕ
place o index s len =
    if fits_in_place o.sections index s len then s.offset else aligned (length o.bytes) (alignment_of s)

-- the number of bytes between the end of the file and len bytes of a section, if these are appended; 0 otherwise
abbrev pub gap_len : Object → ℕ → SectionHeader → ℕ → ℕ
gap_len o index s len = place o index s len - length o.bytes

-- the header of a section that is at another offset, with another size
abbrev pub moved_header : ℕ → ℕ → SectionHeader → SectionHeader
moved_header offset size s = record s { offset = offset; size = size }

-- the file offset of sh_offset and sh_size of a section, which are the two words of its header that change
abbrev pub place_in_header : Object → ℕ → ℕ
place_in_header o index = o.header.section_headers + file_header_len * index + 24

-- The len bytes from an offset on share no byte with another range.
abbrev pub Apart : ℕ → ℕ → ℕ → ℕ → Type 0
Apart at len other size = 0 < len → 0 < size → (at + len ≤ other) ⊎ (other + size ≤ at)

-- The new object is the old one with these bytes in a section, whose header was s.
pub record ReplacesSection (old : Object) (index : ℕ) (s : SectionHeader) (given : List ℕ) (new : Object) : Type 0 where
  pub header : new.header ≡ old.header
  pub sections : new.sections ≡ slice_set old.sections index (moved_header (place old index s (length given)) (length given) s)
  pub replaced : section_bytes new (moved_header (place old index s (length given)) (length given) s) ≡ given
  pub others : (other : ℕ) (t : SectionHeader) → other ≢ index → slice_get old.sections other ≡ Some t
      → section_bytes new t ≡ section_bytes old t
  pub names : name_table new ≡ name_table old
  pub symbols : symbols new ≡ symbols old
  pub symbol_names : symbol_names new ≡ symbol_names old
  pub file_len : length new.bytes ≡ max (length old.bytes) (place old index s (length given) + length given)
  pub gap : slice (length old.bytes) (gap_len old index s (length given)) new.bytes
      ≡ replicate (gap_len old index s (length given)) 0
  pub bytes : (at len : ℕ) → at + len ≤ length old.bytes → Apart at len (place_in_header old index) 16
      → Apart at len (place old index s (length given)) (length given) → slice at len new.bytes ≡ slice at len old.bytes
