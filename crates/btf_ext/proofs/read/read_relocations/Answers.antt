use Rattle.btf_ext.proofs.NamedSections.{each_section}
use Rattle.btf_ext.proofs.read.read_relocations.Goals as goal

pub read_records-requires-clause-whole : goal.read_records-requires-clause-whole
read_records-requires-clause-whole c = each_section c.args.rec_size c.args.sections.now c.loop-section.section-index _ c.requires.whole c.loop-section-test.true
