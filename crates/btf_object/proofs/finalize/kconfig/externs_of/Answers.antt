use Rattle.btf_object.proofs.Externs.{one_known, all_known, unknown_there}
use Rattle.btf_object.proofs.FinalSections.{none_there}
use Rattle.btf_object.proofs.finalize.kconfig.externs_of.Goals as goal

pub returns-in_default-clause-known : goal.returns-in_default-clause-known
returns-in_default-clause-known c =
    unknown_there c.args.btf.now c.args.data_sec.now.tail c.entries-entry-items.result.now c.loop-entry.entry-index c.extern_of.result c.entries-entry-items.ensures.words c.loop-entry-test.true c.extern_of.ensures
    (none_there c.extern_of.result c.in_default.not-Some)

pub loop-entry-preserved : goal.loop-entry-preserved
loop-entry-preserved c =
    one_known c.args.btf.now c.entries-entry-items.result.now c.loop-entry.entry-index c.loop-entry.externs.items c.push.new.self.items c.in-Some.found c.loop-entry-test.true c.loop-entry.invariant c.in-Some.ensures c.in_ok-push.ensures.items

pub returns-clause-known : goal.returns-clause-known
returns-clause-known c =
    all_known c.args.btf.now c.args.data_sec.now.tail c.entries-entry-items.result.now c.loop-entry.entry-index c.loop-entry.externs.items c.entries-entry-items.ensures.words c.loop-entry-test.false c.loop-entry.invariant
