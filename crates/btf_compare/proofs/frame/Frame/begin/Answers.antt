use Rattle.std.proofs.Common.{sym, subst, Some, None, Option, Result}
use Rattle.btf_plain.specs.declared.error.BtfError.{BtfError}
use Rattle.btf_compare.specs.declared.frame.Frame.{Frame}
use Rattle.btf_compare.specs.declared.frame.Place.{Place}
use Rattle.btf_compare.specs.Compared.{AfterSteps, WalksTo, frame_of, passed_in}
use Rattle.btf_compare.proofs.Steps.{walks_on}
use Rattle.btf_compare.proofs.frame.Frame.begin.Goals as goal

pub returns-in-Some-clause-walks : goal.returns-in-Some-clause-walks
returns-in-Some-clause-walks c = λ _.
    let steps : AfterSteps c.args.local.now c.args.target.now (passed_in c.args.passed.now) c.args.self.now c.first_step.new.self (Some c.in-Some.end) = subst (λ (o : Option (Result Place BtfError)). AfterSteps c.args.local.now c.args.target.now (passed_in c.args.passed.now) c.args.self.now c.first_step.new.self o) c.in-Some.is (c.first_step.ensures.steps c.args.local.now c.args.target.now c.requires.local c.requires.target) in
    subst (λ (f : Frame). WalksTo c.args.local.now c.args.target.now (passed_in c.args.passed.now) (frame_of c.args.self.now) (frame_of f)) (sym steps.0) WalksTo.here

pub returns-in-None-clause-walks : goal.returns-in-None-clause-walks
returns-in-None-clause-walks c = λ _.
    let steps : AfterSteps c.args.local.now c.args.target.now (passed_in c.args.passed.now) c.args.self.now c.first_step.new.self None = subst (λ (o : Option (Result Place BtfError)). AfterSteps c.args.local.now c.args.target.now (passed_in c.args.passed.now) c.args.self.now c.first_step.new.self o) c.in-None.is (c.first_step.ensures.steps c.args.local.now c.args.target.now c.requires.local c.requires.target) in
    walks_on c.args.local.now c.args.target.now (passed_in c.args.passed.now) (frame_of c.args.self.now) (frame_of c.first_step.new.self) (frame_of c.walk.new.self) steps c.walk.ensures.walks
