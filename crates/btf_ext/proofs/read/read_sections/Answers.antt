use Rattle.std.proofs.Common.{Some, subst, map}
use Rattle.btf_model.specs.Ext.{AreSections}
use Rattle.btf_ext.specs.SecInfo.{section_of, GivesSection}
use Rattle.btf_ext.proofs.Parts.{sections_refused}
use Rattle.btf_plain.proofs.Refused.{handed_on}
use Rattle.btf_ext.proofs.read.read_sections.Goals as goal

pub returns-in_err-section : goal.returns-in_err-section
returns-in_err-section c =
    handed_on (λ v. map section_of v.items) c.in_err-section.field-0.0 c.from_residual.result (AreSections c.args.endianness c.args.part.now.rec_size c.args.part.now.sections.now) c.from_residual.ensures.1
    (sections_refused c.args.endianness c.args.part.now.rec_size c.args.part.now.sections.now (map section_of c.loop-section.sections.items) c.loop-section.section-iterator c.next.new.self c.in_err-section.field-0.0 c.loop-section.invariant
    (subst (λ r. GivesSection c.loop-section.section-iterator (Some r) c.next.new.self) c.in_err-section.was c.in-Some.ensures.steps))
