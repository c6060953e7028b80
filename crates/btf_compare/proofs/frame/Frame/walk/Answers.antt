use Rattle.std.proofs.Common.{refl, subst, ◌∙◌, None, Option, Result}
use Rattle.btf_plain.specs.declared.error.BtfError.{BtfError}
use Rattle.btf_compare.specs.declared.frame.Place.{Place}
use Rattle.btf_compare.specs.Compared.{AfterStep, IsFound, WalksTo, frame_of, passed_in}
use Rattle.btf_compare.proofs.Steps.{too_deep, walks_more}
use Rattle.btf_compare.proofs.frame.Frame.walk.Goals as goal

pub positions-init : goal.positions-init
positions-init c = record { walks = WalksTo.here; pair = refl }

pub positions-preserved : goal.positions-preserved
positions-preserved c =
    let found : IsFound c.args.local.now c.args.target.now c.position_at.result c.positions.self = record { position_is = c.position_at.ensures.position; ids = c.position_at.ensures.ids; few = c.position_at.ensures.few } in
    let step : AfterStep c.args.local.now c.args.target.now (passed_in c.args.passed.now) c.positions.self c.step.new.self None = subst (λ (o : Option (Result Place BtfError)). AfterStep c.args.local.now c.args.target.now (passed_in c.args.passed.now) c.positions.self c.step.new.self o) c.in_default.is (c.step.ensures.steps c.args.local.now c.args.target.now found) in
    record {
      walks = walks_more c.args.local.now c.args.target.now (passed_in c.args.passed.now) (frame_of c.args.self.now) (frame_of c.positions.self) (frame_of c.step.new.self) c.positions.invariant.walks step.0;
      pair = c.step.ensures.pair ∙ c.positions.invariant.pair;
    }

pub returns-clause-comes : goal.returns-clause-comes
returns-clause-comes c = (_, refl, too_deep c.args.local.now c.args.target.now c.positions.self c.positions-test.false)
