-- The index of each name of a section.
use Rattle.std.specs.Prelude.{◌≡◌, ℕ, ◌<◌, ◌&&◌, Bool, List, drop, length, Option}
use Rattle.std.specs.Borrow.{Bor}
use Rattle.std.specs.BTreeMap.{BTreeMap, get}
use Rattle.std.specs.List.{position_from}
use Rattle.std.specs.Cmp.Lexicographic.{slice_cmp}
use Rattle.std.specs.Ordering.{nat_cmp}
use Rattle.std.specs.Str.{bytes_eq}
use Rattle.btf_elf_model.specs.Object.{Object, section_name}
use Rattle.btf_elf_model.specs.Section.{has_bytes}
use Rattle.btf_elf_model.specs.declared.section_header.SectionHeader.{SectionHeader}
use Rattle.btf_object_model.specs.Layout.{name_limit}
use Rattle.btf_loader_model.specs.Loader.{code_index}

-- the index that a map has for a name
abbrev pub name_index_in : BTreeMap (Bor (List ℕ)) ℕ → Bor (List ℕ) → Option ℕ
name_index_in named name = get (λ x y. slice_cmp nat_cmp x.now y.now) named name

-- The map has for each name that is not too long the index of the first section that has this name, and bytes in the
-- file.
abbrev pub HasIndices : BTreeMap (Bor (List ℕ)) ℕ → Object → Type 0
HasIndices named o =
    (name : Bor (List ℕ)) → length name.now < name_limit → name_index_in named name ≡ code_index o name.now

-- whether a section has a name, and bytes in the file
abbrev pub is_code : Object → List ℕ → SectionHeader → Bool
is_code o name s = has_bytes s && bytes_eq (section_name o s) name

-- the same of the sections from an index on
abbrev pub HasIndicesFrom : BTreeMap (Bor (List ℕ)) ℕ → Object → ℕ → Type 0
HasIndicesFrom named o start =
    (name : Bor (List ℕ)) → length name.now < name_limit
    → name_index_in named name ≡ position_from (is_code o name.now) start (drop start o.sections)
