-- The places of sections, as the code has them.
use Rattle.std.specs.Prelude.{◌≡◌, ℕ, ◌+◌, ◌<◌, ◌&&◌, nat_lt, Bool, true, false, List, drop, filter, map, ◌++◌, slice_get, Some}
use Rattle.std.specs.List.Sorted.{IsPermutation, IsNonDecreasing}
use Rattle.btf_elf_model.specs.Section.{has_bytes}
use Rattle.btf_elf_model.specs.declared.section_header.SectionHeader.{SectionHeader}
use Rattle.btf_loader.specs.declared.places.Places.{Places}

-- whether a section has a byte in the file
abbrev pub has_byte : SectionHeader → Bool
has_byte s = has_bytes s && nat_lt 0 s.size

-- the first byte and the end of a section
abbrev pub start_of : SectionHeader → ℕ
start_of s = s.offset

abbrev pub end_of : SectionHeader → ℕ
end_of s = s.offset + s.size

-- The section of an index has a byte in the file, and this start and end.
pub record IsPlace (sections : List SectionHeader) (index start end : ℕ) : Type 0 where
  pub section : SectionHeader
  pub here : slice_get sections index ≡ Some section
  pub placed : has_byte section ≡ true
  pub start_is : start ≡ section.offset
  pub end_is : end ≡ section.offset + section.size
  pub some : start < end

-- The section of an index, if there is one, has no byte in the file.
abbrev pub HasNoPlace : List SectionHeader → ℕ → Type 0
HasNoPlace sections index = (s : SectionHeader) → slice_get sections index ≡ Some s → has_byte s ≡ false

-- these numbers of the sections that have a byte
abbrev pub of_placed : (SectionHeader → ℕ) → List SectionHeader → List ℕ
of_placed number sections = map number (filter has_byte sections)

-- The numbers are those of the sections that have a byte, in rising order.
pub record AreSectionNumbers (number : SectionHeader → ℕ) (sections : List SectionHeader) (numbers : List ℕ) : Type 0 where
  pub rising : IsNonDecreasing numbers
  pub same : IsPermutation (of_placed number sections) numbers

-- the places are those of these sections
pub record HasPlaces (places : Places) (sections : List SectionHeader) : Type 0 where
  pub starts : AreSectionNumbers start_of sections places.starts.items
  pub ends : AreSectionNumbers end_of sections places.ends.items

-- the numbers so far, and those of the sections from an index on
abbrev pub ExtendsNumbers : (SectionHeader → ℕ) → List SectionHeader → ℕ → List ℕ → List ℕ → Type 0
ExtendsNumbers number sections index old new =
    new ++ of_placed number (drop (index + 1) sections) ≡ old ++ of_placed number (drop index sections)

-- The section of an index is added to the places.
abbrev pub AddsPlaces : List SectionHeader → ℕ → Places → Places → Type 0
AddsPlaces sections index old new =
    ExtendsNumbers start_of sections index old.starts.items new.starts.items
    × ExtendsNumbers end_of sections index old.ends.items new.ends.items
