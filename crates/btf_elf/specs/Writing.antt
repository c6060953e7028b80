-- Bytes that are written over others, and the bytes of a section that are replaced.
use Rattle.std.specs.Prelude.{◌≡◌, ℕ, ◌+◌, ◌-◌, ◌*◌, List, ◌++◌, length, take, drop, max, replicate, slice_get, if◌then◌else◌, Option, Some, None}
use Rattle.std.specs.Int.{w64}
use Rattle.btf_model.specs.Word.{bytes_of}
use Rattle.btf_elf_model.specs.Header.{file_header_len}
use Rattle.btf_elf_model.specs.Object.{Object, IsObject}
use Rattle.btf_elf_model.specs.Replaced.{ReplacesSection, is_replaceable}
use Rattle.btf_elf_model.specs.declared.file_header.FileHeader.{FileHeader}
use Rattle.btf_elf_model.specs.declared.section_header.SectionHeader.{SectionHeader}
use Rattle.btf_elf.specs.declared.error.ReplaceError.{ReplaceError}
use Rattle.btf_elf.specs.declared.error.ReplaceError.TheVariants.{NoSuchSection, NotReplaceable}

-- bytes that are overwritten with others from an offset on
unfoldable pub put : ℕ → List ℕ → List ℕ → List ℕ
put at new bytes = take at bytes ++ new ++ drop (at + length new) bytes

-- the bytes, with zeros after them up to an end
abbrev pub up_to : ℕ → List ℕ → List ℕ
up_to end bytes = bytes ++ replicate (max (length bytes) end - length bytes) 0

-- the words sh_offset and sh_size of a section
abbrev pub place_words : FileHeader → ℕ → ℕ → List ℕ
place_words h offset size = bytes_of w64 h.order offset ++ bytes_of w64 h.order size

-- the bytes of a file in which the bytes of a section, and the two words of its header, are replaced
abbrev pub file_with_section : FileHeader → List ℕ → ℕ → ℕ → List ℕ → List ℕ
file_with_section h bytes index offset given =
    put (h.section_headers + file_header_len * index + 24) (place_words h offset (length given))
    (put offset given (up_to (offset + length given) bytes))

-- why the bytes of a section, if there is one, can't be replaced
abbrev pub error_at : ℕ → Option SectionHeader → Option ReplaceError
error_at index None = Some (NoSuchSection index)
error_at index (Some s) = if is_replaceable index s then None else Some (NotReplaceable index)

-- why the bytes of the section of an index can't be replaced
abbrev pub replace_error : Object → ℕ → Option ReplaceError
replace_error o index = error_at index (slice_get o.sections index)

-- These bytes are an object: the old one, with the given bytes in the section of an index.
abbrev pub HasReplaced : Object → ℕ → List ℕ → List ℕ → Type 0
HasReplaced old index given file =
    (s : SectionHeader) × (slice_get old.sections index ≡ Some s)
    × ((new : Object) × IsObject file new × ReplacesSection old index s given new)
