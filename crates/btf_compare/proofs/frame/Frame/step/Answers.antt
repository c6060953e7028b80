use Rattle.std.proofs.Common.{refl, sym, ap, ◌∙◌, arith, Ok, Err}
use Rattle.btf_compare.specs.declared.position.Position.TheVariants as positions
use Rattle.btf_compare.specs.Compared.{IsFound, passed_in}
use Rattle.btf_compare.proofs.Steps.{decided, found_as, steps_on, steps_past}
use Rattle.btf_compare.proofs.frame.Frame.step.Goals as goal

pub returns-in-Decided-Ok-clause-steps : goal.returns-in-Decided-Ok-clause-steps
returns-in-Decided-Ok-clause-steps c = λ local target found.
    (refl, decided local target c.args.self.now (Ok c.in-Decided-Ok.answer) c.requires (found_as local target c.args.self.now c.args.position (positions.Decided (Ok c.in-Decided-Ok.answer)) (c.in-Decided-Ok.is ∙ ap positions.Decided c.in-Decided-Ok.field-0-is) found).position_is)

pub returns-in-Decided-Err-clause-steps : goal.returns-in-Decided-Err-clause-steps
returns-in-Decided-Err-clause-steps c = λ local target found.
    (refl, decided local target c.args.self.now (Err c.in-Decided-Err.e) c.requires (found_as local target c.args.self.now c.args.position (positions.Decided (Err c.in-Decided-Err.e)) (c.in-Decided-Err.is ∙ ap positions.Decided c.in-Decided-Err.field-0-is) found).position_is)

pub returns-in-On-clause-steps : goal.returns-in-On-clause-steps
returns-in-On-clause-steps c = λ local target found.
    steps_on local target c.args.self.now (passed_in c.args.passed.now) c.go_on.new.self c.in-On.next c.requires c.go_on.ensures (found_as local target c.args.self.now c.args.position (positions.On c.in-On.next) c.in-On.is found)

pub returns-else-not-contains-clause-steps : goal.returns-else-not-contains-clause-steps
returns-else-not-contains-clause-steps c = λ local target found.
    steps_past local target c.args.self.now (passed_in c.args.passed.now) c.go_on-in-Prototypes.new.self c.in-Prototypes.found c.requires c.go_on-in-Prototypes.ensures (found_as local target c.args.self.now c.args.position (positions.Prototypes c.in-Prototypes.found) c.in-Prototypes.is found)
    (sym c.contains.ensures ∙ c.if-not-contains.false) (omega (arith, c.if-self-gt0.false))
