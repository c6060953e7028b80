use Rattle.std.proofs.Common.{◌<◌, ℕ, Option, Result, Ok, drop, subst, sym, arith, rules, ◌≡◌}
use Rattle.std.proofs.lemmas.Grind.{common_steps}
use Rattle.btf_relocate_model.specs.declared.error.RelocationError.{RelocationError}
use Rattle.btf_relocate.specs.Members.{member_of, members_held}
use Rattle.btf_relocate.specs.Steps.{NamedMember, NextMember, place_after}
use Rattle.btf_relocate.specs.declared.types.walk.Next.{Next}
use Rattle.btf_relocate.proofs.Compatibles.{from_err}
use Rattle.btf_relocate.proofs.Definitions.{member_fails, member_missing, member_asks, members_over}
use Rattle.btf_relocate.proofs.Pointers.{element_at, none_there}
use Rattle.btf_relocate.proofs.types.walk.next_member.Goals as goal
use Rattle.btf_relocate.proofs.types.walk.next_member.Goals.{in-Some-true, in_default}

pub returns-in_default-get-clause-next : goal.returns-in_default-get-clause-next
returns-in_default-get-clause-next c = λ inner further.
    let place : c.match-answer.index ≡ place_after c.args.frame.now.index c.args.frame.now.other c.args.answer = elim c.match-answer.branch [ in-Some-true w ↦ grind (arith, common_steps) | in_default w ↦ search rules ] in
    let ms = members_held c.args.members.now in
    members_over inner further c.args.local.now c.args.target.now ms (members_held c.args.others.now) c.args.frame.now.index c.args.frame.now.other c.args.answer c.match-answer.index place
    (none_there ms c.match-answer.index.0 (sym c.in_default-get.ensures.member))

pub returns-in_err-found-clause-next : goal.returns-in_err-found-clause-next
returns-in_err-found-clause-next c =
    let place : c.match-answer.index ≡ place_after c.args.frame.now.index c.args.frame.now.other c.args.answer = elim c.match-answer.branch [ in-Some-true w ↦ grind (arith, common_steps) | in_default w ↦ search rules ] in
    let e = c.in_err-found.field-0.0 in
    subst (λ (r : Result Next RelocationError). NextMember c.args.local.now c.args.target.now (members_held c.args.members.now) (members_held c.args.others.now) c.args.frame.now.index c.args.frame.now.other c.args.answer r)
    (sym (from_err c.from_residual.result e c.from_residual.ensures.1))
    (λ inner further.
    member_fails inner further c.args.local.now c.args.target.now (members_held c.args.members.now) (members_held c.args.others.now) c.args.frame.now.index c.args.frame.now.other c.args.answer c.match-answer.index place
    (member_of c.in-Some.member) (element_at (members_held c.args.members.now) c.match-answer.index.0 (member_of c.in-Some.member) (sym c.in-Some.ensures.member)) e (c.in_err-found.ensures.found inner))

pub returns-in-Some-2-clause-next : goal.returns-in-Some-2-clause-next
returns-in-Some-2-clause-next c = λ inner further.
    let place : c.match-answer.index ≡ place_after c.args.frame.now.index c.args.frame.now.other c.args.answer = elim c.match-answer.branch [ in-Some-true w ↦ grind (arith, common_steps) | in_default w ↦ search rules ] in
    let m = member_of c.in-Some.member in
    let found = subst (λ (o : Option (ℕ × ℕ)). NamedMember c.args.local.now c.args.target.now m (members_held c.args.others.now) (drop c.match-answer.index.1 (members_held c.args.others.now)) (Ok o)) c.in-Some-2.is c.in_ok-found.ensures.found in
    let low : c.match-answer.index.0 < 18446744073709551615 = omega (arith, c.in-Some.ensures.small) in
    member_asks inner further c.args.local.now c.args.target.now (members_held c.args.members.now) (members_held c.args.others.now) c.args.frame.now.index c.args.frame.now.other c.args.answer c.match-answer.index place
    m (element_at (members_held c.args.members.now) c.match-answer.index.0 (member_of c.in-Some.member) (sym c.in-Some.ensures.member)) c.in-Some-2.after low c.in-Some-2.found (found inner)

pub returns-in-None-clause-next : goal.returns-in-None-clause-next
returns-in-None-clause-next c = λ inner further.
    let place : c.match-answer.index ≡ place_after c.args.frame.now.index c.args.frame.now.other c.args.answer = elim c.match-answer.branch [ in-Some-true w ↦ grind (arith, common_steps) | in_default w ↦ search rules ] in
    let m = member_of c.in-Some.member in
    let found = subst (λ (o : Option (ℕ × ℕ)). NamedMember c.args.local.now c.args.target.now m (members_held c.args.others.now) (drop c.match-answer.index.1 (members_held c.args.others.now)) (Ok o)) c.in-None.is c.in_ok-found.ensures.found in
    member_missing inner further c.args.local.now c.args.target.now (members_held c.args.members.now) (members_held c.args.others.now) c.args.frame.now.index c.args.frame.now.other c.args.answer c.match-answer.index place
    m (element_at (members_held c.args.members.now) c.match-answer.index.0 (member_of c.in-Some.member) (sym c.in-Some.ensures.member)) (found inner)
