use Rattle.std.proofs.Common.{◌≡◌, ℕ, List, take}
use Rattle.std.specs.HashMap.{hasher_of}
use Rattle.btf_elf_model.specs.Object.{section_name}
use Rattle.btf_elf_model.specs.declared.section_header.SectionHeader.{SectionHeader}
use Rattle.btf_object_model.specs.Layout.{last_named}
use Rattle.btf_table.specs.Layout.{sizes_of}
use Rattle.btf_object.specs.Names.{name_indices}
use Rattle.btf_object.proofs.Named.{indexed, last_indexed}
use Rattle.btf_object.proofs.layout.read_sections.Given as goal

abbrev pub invariant-loop-index : goal.invariant-loop-index
invariant-loop-index g l =
    ((name : List ℕ)
    → (sizes_of l.map name ≡ last_named (section_name l.object) (λ (s : SectionHeader). s.size) (take l.index l.object.sections) name)
    × (name_indices l.map name ≡ last_indexed l.object (indexed l.object l.index) name))
    × (hasher_of l.map ≡ l.fn.hash_builder)
