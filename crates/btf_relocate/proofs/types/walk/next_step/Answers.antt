use Rattle.std.proofs.Common.{Result, Ok, sym, ap, ◌∙◌}
use Rattle.btf_relocate_model.specs.Comparison as model
use Rattle.btf_relocate_model.specs.declared.error.RelocationError.{RelocationError}
use Rattle.btf_relocate.specs.Members.{members_held, parameters_of}
use Rattle.btf_view.specs.TypeRef.{record_in}
use Rattle.btf_relocate.specs.Steps.{comparison, step_view}
use Rattle.btf_relocate.specs.declared.types.steps.Step.{Step}
use Rattle.btf_relocate.proofs.Comparing.{continues, continues_member}
use Rattle.btf_relocate.proofs.types.walk.next_step.Goals as goal

pub returns-in-EachParameter-clause-continues : goal.returns-in-EachParameter-clause-continues
returns-in-EachParameter-clause-continues c =
    let whole = comparison c.args.rule c.args.local.now c.args.target.now in
    let s = model.EachParameter (parameters_of (record_in c.in-EachParameter.one)) (parameters_of (record_in c.in-EachParameter.other)) c.in-EachParameter.returned in
    continues whole c.args.frame.now c.args.answer c.if-frame-eq0.false c.in_ok-at.at (sym c.in_ok-at.ensures) s
    (c.in_ok-is_alike.ensures ∙ ap (λ (x : Step). let r : Result model.Step RelocationError = Ok (step_view x) in r) c.in-EachParameter.is) c.next_parameter.result
    (λ inner further. c.next_parameter.ensures.next inner further c.args.local.now c.args.target.now)

pub returns-in-EachMember-clause-continues : goal.returns-in-EachMember-clause-continues
returns-in-EachMember-clause-continues c =
    let whole = comparison c.args.rule c.args.local.now c.args.target.now in
    continues_member whole c.args.frame.now c.args.answer c.if-frame-eq0.false c.in_ok-at.at (sym c.in_ok-at.ensures) (members_held c.in-EachMember.members) (members_held c.in-EachMember.others)
    (c.in_ok-is_alike.ensures ∙ ap (λ (x : Step). let r : Result model.Step RelocationError = Ok (step_view x) in r) c.in-EachMember.is) c.next_member.result c.next_member.ensures.next
