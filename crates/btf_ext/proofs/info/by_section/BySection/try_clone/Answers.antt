use Rattle.std.proofs.Common.{ap}
use Rattle.std.specs.Result.{result_ok}
use Rattle.std.proofs.lemmas.Option.{same_Some}
use Rattle.btf_ext.proofs.Copies.{one_more_copied}
use Rattle.btf_ext.proofs.info.by_section.BySection.try_clone.Goals as goal

pub loop-name-preserved-in_ok-insert : goal.loop-name-preserved-in_ok-insert
loop-name-preserved-in_ok-insert g c =
    one_more_copied g.S.SectionRecords.records c.args.self.now.sections.entries c.loop-name.copy.sections c.insert.new.self c.loop-name.name-iterator c.next.new.self c.in-Some.name.now c.in-Some.section.now c.in_ok-clone.field-0 c.in_ok-copied.field-0 c.loop-name.invariant c.in-Some.ensures.steps c.in_ok-clone.ensures.cases
    (same_Some _ _ (ap result_ok c.in_ok-copied.ensures)) c.in_ok-insert.ensures.updates

pub loop-name-preserved : goal.loop-name-preserved
loop-name-preserved g c =
    one_more_copied g.S.SectionRecords.records c.args.self.now.sections.entries c.loop-name.copy.sections c.insert.new.self c.loop-name.name-iterator c.next.new.self c.in-Some.name.now c.in-Some.section.now c.in_ok-clone.field-0 c.in_ok-copied.field-0 c.loop-name.invariant c.in-Some.ensures.steps c.in_ok-clone.ensures.cases
    (same_Some _ _ (ap result_ok c.in_ok-copied.ensures)) c.in_ok-insert.ensures.updates
