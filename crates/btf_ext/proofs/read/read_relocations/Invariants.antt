use Rattle.std.proofs.Common.{◌≡◌, take, map}
use Rattle.btf_model.specs.Ext.{relocation_section}
use Rattle.btf_ext.specs.SecInfo.{section_of}
use Rattle.btf_ext.specs.Relocation.{relocation}
use Rattle.btf_ext.proofs.read.read_relocations.Given as goal

abbrev pub invariant-loop-section : goal.invariant-loop-section
invariant-loop-section l = map relocation l.relocations.items ≡ map (relocation_section l.endianness l.rec_size) (map section_of (take l.section-index l.sections))
