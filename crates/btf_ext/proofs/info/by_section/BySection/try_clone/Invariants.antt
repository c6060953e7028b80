use Rattle.btf_ext.proofs.Copies.{CopiedSoFar}
use Rattle.btf_ext.proofs.info.by_section.BySection.try_clone.Given as goal

abbrev pub invariant-loop-name : goal.invariant-loop-name
invariant-loop-name g l = CopiedSoFar g.S.SectionRecords.records l.self.sections.entries l.copy.sections l.name-iterator
