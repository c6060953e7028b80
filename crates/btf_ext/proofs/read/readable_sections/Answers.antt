use Rattle.std.proofs.Common.{Some, subst, sym, ap, ◌∙◌, [], ◌∷◌, map}
use Rattle.std.proofs.lemmas.List.{map-append}
use Rattle.btf_ext.specs.SecInfo.{section_of, GivesSection, ReadsSections}
use Rattle.btf_ext.proofs.NamedSections.{one_more_met, was_met}
use Rattle.btf_ext.proofs.Parts.{named_refused, unnamed_refused}
use Rattle.btf_plain.proofs.Refused.{handed_on}
use Rattle.btf_ext.proofs.read.readable_sections.Goals as goal
use Rattle.btf_ext.proofs.read.readable_sections.Goals.{then-is_new+in_ok-string_at+in-Owned-1, then-is_new+in_ok-string_at+in-Borrowed-1, else-is_new}

pub returns-in_err-section : goal.returns-in_err-section
returns-in_err-section c =
    let h = c.loop-section.invariant in
    handed_on (λ v. map section_of v.items) c.in_err-section.field-0.0 c.from_residual.result (ReadsSections c.args.endianness c.args.part.now.rec_size c.args.btf.now.strings c.args.part.now.sections.now) c.from_residual.ensures.1
    (named_refused c.args.endianness c.args.part.now.rec_size c.args.btf.now.strings c.args.part.now.sections.now h.names c.loop-section.section-iterator c.next.new.self c.in_err-section.field-0.0 h.cut h.have
    (subst (λ r. GivesSection c.loop-section.section-iterator (Some r) c.next.new.self) c.in_err-section.was c.in-Some.ensures.steps))

pub returns-in_err-string_at : goal.returns-in_err-string_at
returns-in_err-string_at c =
    let h = c.loop-section.invariant in
    handed_on (λ v. map section_of v.items) c.in_err-string_at.field-0.0 c.from_residual-in_err-string_at.result (ReadsSections c.args.endianness c.args.part.now.rec_size c.args.btf.now.strings c.args.part.now.sections.now) c.from_residual-in_err-string_at.ensures.1
    (unnamed_refused c.args.endianness c.args.part.now.rec_size c.args.btf.now.strings c.args.part.now.sections.now h.names c.loop-section.section-iterator c.next.new.self c.in_ok-section.section c.in_err-string_at.field-0.0 h.cut h.have
    (subst (λ r. GivesSection c.loop-section.section-iterator (Some r) c.next.new.self) c.in_ok-section.was c.in-Some.ensures.steps) c.in_err-string_at.ensures.text)

pub loop-section-preserved : goal.loop-section-preserved
loop-section-preserved c =
    let s = c.in_ok-section.section in
    one_more_met c.args.endianness c.args.part.now.rec_size c.args.btf.now.strings c.args.part.now.sections.now (map section_of c.loop-section.sections.items) (map section_of c.push.new.self.items) c.loop-section.section-iterator c.next.new.self c.loop-section.met c.insert.new.self s c.loop-section.invariant
    (subst (λ r. GivesSection c.loop-section.section-iterator (Some r) c.next.new.self) c.in_ok-section.was c.in-Some.ensures.steps)
    (ap (map section_of) c.in_ok-push.ensures.items ∙ map-append section_of c.loop-section.sections.items (s ∷ []))
    c.in_ok-is_new.ensures.updates
    (elim c.if-is_new.branch [
      | then-is_new+in_ok-string_at+in-Owned-1 w ↦ (_, sym w.in_ok-string_at.ensures.text)
      | then-is_new+in_ok-string_at+in-Borrowed-1 w ↦ (_, sym w.in_ok-string_at.ensures.text)
      | else-is_new w ↦ c.loop-section.invariant.met s.name_offset (was_met _ _ c.in_ok-is_new.ensures.added w.if-is_new.false)
    ])
