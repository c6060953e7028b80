-- The table of section headers.
use Rattle.std.specs.Prelude.{ℕ, ◌⊎◌, ◌<◌, ◌==◌, List, length, drop, if◌then◌else◌, MatchOption, Option, ◌-◌, ◌/◌, ◌≡◌, ◌≤◌}
use Rattle.std.specs.Simd.{first_chunks}
use Rattle.btf_elf_model.specs.Header.{file_header_len}
use Rattle.btf_elf_model.specs.Section.{section_header, section_count, table_end}
use Rattle.btf_elf_model.specs.declared.file_header.FileHeader.{FileHeader}
use Rattle.std.specs.Borrow.{Bor}

-- the bytes of each section header
abbrev pub section_header_bytes : FileHeader → List ℕ → List (List ℕ)
section_header_bytes h bytes = first_chunks file_header_len (section_count h bytes) (drop h.section_headers bytes)

-- the number of sections, by the bytes of the header of section 0
unfoldable pub count_by_first : FileHeader → List ℕ → ℕ
count_by_first h first =
    if h.section_header_count == 0 then (section_header h.order first).size else h.section_header_count

-- The table begins in the file header, or ends after the end of the bytes.
abbrev pub IsTableOutside : FileHeader → List ℕ → Type 0
IsTableOutside h bytes = (h.section_headers < file_header_len) ⊎ (length bytes < table_end h bytes)

-- The result is the whole entries of 64 bytes from an offset on; None if the offset is outside.
abbrev pub IsEntriesAt : List ℕ → ℕ → Option (Bor (List (List ℕ))) → Type 0
IsEntriesAt bytes offset result =
    MatchOption result (length bytes < offset)
    (λ t. (offset ≤ length bytes) × (t.now ≡ first_chunks file_header_len ((length bytes - offset) / 64)
    (drop offset bytes)) × (length t.now ≡ (length bytes - offset) / 64))

-- The result is the section header table; None if it is outside of the file.
abbrev pub FindsTable : List ℕ → FileHeader → Option (Bor (List (List ℕ))) → Type 0
FindsTable bytes header result =
    MatchOption result (IsTableOutside header bytes)
    (λ t. ¬ (IsTableOutside header bytes) × (t.now ≡ section_header_bytes header bytes)
    × (length t.now ≡ section_count header bytes))
