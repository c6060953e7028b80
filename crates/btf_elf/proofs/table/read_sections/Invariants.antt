use Rattle.std.proofs.Common.{◌≡◌, take, map}
use Rattle.btf_elf_model.specs.Section.{section_header}
use Rattle.btf_elf.proofs.table.read_sections.Given as goal

abbrev pub invariant-loop-entry : goal.invariant-loop-entry
invariant-loop-entry l = l.sections.items ≡ map (section_header l.order) (take l.entry-index l.table)
