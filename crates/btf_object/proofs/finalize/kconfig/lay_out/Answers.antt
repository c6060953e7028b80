use Rattle.btf_object.proofs.Externs.{one_laid_out, all_laid_out, too_large, at_least}
use Rattle.btf_object.proofs.finalize.kconfig.lay_out.Goals as goal

pub loop-it-preserved : goal.loop-it-preserved
loop-it-preserved c =
    one_laid_out c.args.externs.now c.loop-it.it-index _ c.loop-it.entries.items c.push.new.self.items c.loop-it.size c.in-Some.end c.loop-it-test.true c.loop-it.invariant c.in_ok-push.ensures.items c.in-Some.ensures.0 c.in-Some.ensures.1

pub returns-in_default-clause-none : goal.returns-in_default-clause-none
returns-in_default-clause-none c =
    too_large c.args.externs.now c.loop-it.it-index _ c.loop-it.entries.items c.loop-it.size c.loop-it-test.true c.loop-it.invariant (at_least _ _ c.in_default.ensures)

pub returns-clause-some : goal.returns-clause-some
returns-clause-some c = all_laid_out c.args.externs.now c.loop-it.it-index c.loop-it.entries.items c.loop-it.size c.loop-it-test.false c.loop-it.invariant
