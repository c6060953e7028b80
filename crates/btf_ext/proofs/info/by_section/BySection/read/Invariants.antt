use Rattle.std.specs.Prelude.{◌≡◌}
use Rattle.std.specs.Slice.Iter.{iter_rest}
use Rattle.std.specs.Iterator.Adapters.{rev_source}
use Rattle.btf_ext.specs.ExtHeader.{part}
use Rattle.btf_ext.specs.Info.{by_name, hasher_in}
use Rattle.btf_ext.proofs.NamedSections.{TakenSoFar}
use Rattle.btf_ext.proofs.info.by_section.BySection.read.Given as goal

abbrev pub invariant-loop-section : goal.invariant-loop-section
invariant-loop-section g l =
    TakenSoFar l.fn.endianness g.S.SectionRecords.width l.btf.strings (part l.part) (iter_rest (rev_source l.section-iterator)) l.taken (by_name g.S.SectionRecords.records l.info)
    × (hasher_in l.info ≡ l.fn.hash_builder)
