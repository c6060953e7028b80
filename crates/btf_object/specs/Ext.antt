-- What a rewrite of an object keeps of its `.BTF.ext`.
use Rattle.std.specs.Prelude.{ℕ, List}
use Rattle.btf_elf_model.specs.Object as elf
use Rattle.btf_elf_model.specs.declared.section_header.SectionHeader.{SectionHeader}
use Rattle.btf_object_model.specs.Laws.{KeepsExt}
use Rattle.btf_object_model.specs.Sanitized.{HasSection, ext_name}

-- If the bytes are an object with a section `.BTF.ext`, the file is an object that keeps the section.
abbrev pub KeepsItsExt : List ℕ → List ℕ → Type 0
KeepsItsExt bytes file =
    (o : elf.Object) (index : ℕ) (s : SectionHeader) → HasSection bytes ext_name o index s
    → (new : elf.Object) × KeepsExt bytes file o new index s
