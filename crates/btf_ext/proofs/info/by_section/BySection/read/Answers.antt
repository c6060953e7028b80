use Rattle.std.proofs.Common.{Err, ap, ◌∙◌}
use Rattle.std.specs.Slice.Iter.{iter_rest}
use Rattle.std.specs.Iterator.Adapters.{rev_source}
use Rattle.btf_ext.specs.ExtHeader.{part}
use Rattle.btf_ext.specs.Info.{by_name, AreByName}
use Rattle.btf_ext.proofs.NamedSections.{none_taken, turn_of, one_added, one_passed, not_refused, all_taken, was_met}
use Rattle.btf_plain.proofs.Refused.{handed_on}
use Rattle.btf_ext.proofs.info.by_section.BySection.read.Goals as goal

pub loop-section-init : goal.loop-section-init
loop-section-init g c = (
  none_taken c.args.endianness g.S.SectionRecords.width c.args.btf.now.strings (part c.args.part.now) c.in_ok-sections.sections.items (iter_rest (rev_source c.into_iter-section-iterator.result)) c.new-taken.result (by_name g.S.SectionRecords.records c.with_hasher-info.result) c.in_ok-sections.ensures
      (ap (λ i. iter_rest (rev_source i)) c.into_iter-section-iterator.ensures.into_iter_gives ∙ ap iter_rest c.rev-section-items.ensures.source ∙ c.iter.ensures.rest ∙ c.deref.ensures.value) c.new-taken.ensures.empty c.with_hasher-info.ensures.none,
  c.with_hasher-info.ensures.hasher,
)

pub add-requires-clause-whole : goal.add-requires-clause-whole
add-requires-clause-whole g c =
    let t = turn_of c.args.endianness g.S.SectionRecords.width c.args.btf.now.strings (part c.args.part.now) (iter_rest (rev_source c.loop-section.section-iterator)) (iter_rest (rev_source c.next.new.self)) c.in-Some.section.now c.loop-section.taken (by_name g.S.SectionRecords.records c.loop-section.info) c.loop-section.invariant.0 c.in-Some.ensures.steps in t.is_section

pub add-requires-clause-wide : goal.add-requires-clause-wide
add-requires-clause-wide g c =
    let t = turn_of c.args.endianness g.S.SectionRecords.width c.args.btf.now.strings (part c.args.part.now) (iter_rest (rev_source c.loop-section.section-iterator)) (iter_rest (rev_source c.next.new.self)) c.in-Some.section.now c.loop-section.taken (by_name g.S.SectionRecords.records c.loop-section.info) c.loop-section.invariant.0 c.in-Some.ensures.steps in c.requires t.is_section.some_byte

pub loop-section-preserved-in-Continue-branch-3 : goal.loop-section-preserved-in-Continue-branch-3
loop-section-preserved-in-Continue-branch-3 g c = (
  one_added c.args.endianness g.S.SectionRecords.width c.args.btf.now.strings (part c.args.part.now) (iter_rest (rev_source c.loop-section.section-iterator)) (iter_rest (rev_source c.next.new.self)) c.in-Some.section.now c.loop-section.taken c.insert.new.self (by_name g.S.SectionRecords.records c.loop-section.info) (by_name g.S.SectionRecords.records c.add.new.self) c.loop-section.invariant.0 c.in-Some.ensures.steps
      c.in_ok-is_new.ensures.updates c.in_ok-add.ensures.added,
  c.add.ensures.hasher ∙ c.loop-section.invariant.1,
)

pub returns-in_err-add-clause-sections : goal.returns-in_err-add-clause-sections
returns-in_err-add-clause-sections g c =
    handed_on (by_name g.S.SectionRecords.records) c.in_err-add.field-0.0 c.from_residual-in_err-add.result (AreByName c.args.endianness g.S.SectionRecords.width c.args.btf.now.strings (part c.args.part.now)) c.from_residual-in_err-add.ensures.1
    (not_refused c.args.endianness g.S.SectionRecords.width c.args.btf.now.strings (part c.args.part.now) (iter_rest (rev_source c.loop-section.section-iterator)) (iter_rest (rev_source c.next.new.self)) c.in-Some.section.now c.loop-section.taken (by_name g.S.SectionRecords.records c.loop-section.info) c.in_err-add.field-0.0 (λ f. AreByName c.args.endianness g.S.SectionRecords.width c.args.btf.now.strings (part c.args.part.now) (Err f)) c.loop-section.invariant.0 c.in-Some.ensures.steps c.in_err-add.ensures.refused)

pub loop-section-preserved : goal.loop-section-preserved
loop-section-preserved g c = (
  one_passed c.args.endianness g.S.SectionRecords.width c.args.btf.now.strings (part c.args.part.now) (iter_rest (rev_source c.loop-section.section-iterator)) (iter_rest (rev_source c.next.new.self)) c.in-Some.section.now c.loop-section.taken c.insert.new.self (by_name g.S.SectionRecords.records c.loop-section.info) c.loop-section.invariant.0 c.in-Some.ensures.steps
      c.in_ok-is_new.ensures.updates (was_met _ _ c.in_ok-is_new.ensures.added c.if-is_new.false),
  c.loop-section.invariant.1,
)

pub returns-clause-sections : goal.returns-clause-sections
returns-clause-sections g c = all_taken c.args.endianness g.S.SectionRecords.width c.args.btf.now.strings (part c.args.part.now) (iter_rest (rev_source c.loop-section.section-iterator)) c.loop-section.taken (by_name g.S.SectionRecords.records c.loop-section.info) c.loop-section.invariant.0 c.in-None.ensures.steps.0
