use Rattle.std.proofs.Common.{map}
use Rattle.btf_ext.specs.SecInfo.{section_of}
use Rattle.btf_ext.proofs.Parts.{CutSoFar}
use Rattle.btf_ext.proofs.read.read_sections.Given as goal

abbrev pub invariant-loop-section : goal.invariant-loop-section
invariant-loop-section l = CutSoFar l.fn.endianness l.part.rec_size l.part.sections.now (map section_of l.sections.items) l.section-iterator
