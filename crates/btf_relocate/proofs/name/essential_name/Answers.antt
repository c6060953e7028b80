use Rattle.std.proofs.Common.{◌≡◌, ◌-◌, ◌≤◌, length, take, drop, true, false, refl, arith, rules, length-drop}
use Rattle.btf_relocate_model.specs.Name.{separates}
use Rattle.btf_relocate.proofs.Names.{cut_before, whole, no_room, one_less}
use Rattle.btf_relocate.proofs.name.essential_name.Goals as goal

pub loop-last-init : goal.loop-last-init
loop-last-init c =
    let name = c.args.name.now in
    no_room (drop c.saturating_sub-last.result name) (omega (arith, length-drop c.saturating_sub-last.result name, c.saturating_sub-last.ensures))

pub returns-in-loop-last : goal.returns-in-loop-last
returns-in-loop-last c =
    let name = c.args.name.now in
    let n = c.loop-last.last in
    let cut : true ≡ separates (take (length name - (n - 1)) (drop (n - 1) name)) = search rules in
    cut_before name n c.loop-last-test.true (let le : n ≤ length name = omega (arith, c.loop-last.auto.last, c.saturating_sub-last.ensures) in le) true cut refl c.loop-last.invariant

pub loop-last-preserved : goal.loop-last-preserved
loop-last-preserved c =
    let name = c.args.name.now in
    let n = c.loop-last.last in
    let none : false ≡ separates (take (length name - (n - 1)) (drop (n - 1) name)) = search rules in
    one_less name n c.loop-last-test.true (let le : n ≤ length name = omega (arith, c.loop-last.auto.last, c.saturating_sub-last.ensures) in le) false none refl c.loop-last.invariant

pub returns : goal.returns
returns c = whole c.args.name.now c.loop-last.last c.loop-last-test.false c.loop-last.invariant
