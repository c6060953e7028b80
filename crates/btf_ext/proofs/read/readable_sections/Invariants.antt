use Rattle.std.proofs.Common.{map}
use Rattle.btf_ext.specs.SecInfo.{section_of}
use Rattle.btf_ext.proofs.NamedSections.{MetSoFar}
use Rattle.btf_ext.proofs.read.readable_sections.Given as goal

abbrev pub invariant-loop-section : goal.invariant-loop-section
invariant-loop-section l = MetSoFar l.fn.endianness l.part.rec_size l.btf.strings l.part.sections.now (map section_of l.sections.items) l.section-iterator l.met
