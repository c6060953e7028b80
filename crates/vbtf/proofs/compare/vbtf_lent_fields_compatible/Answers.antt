use Rattle.std.proofs.Common.{◌≡◌, ◌∙◌, refl, subst, inl}
use Rattle.std.specs.Prelude.{IfSome, Ok, Err}
use Rattle.btf_model.specs.Fields.{Fields}
use Rattle.btf_plain.specs.Error.{refusal_of}
use Rattle.vbtf.specs.declared.opened.Opened.{Opened}
use Rattle.vbtf.proofs.Ending.{ends_refused}
use Rattle.vbtf.proofs.compare.vbtf_lent_fields_compatible.Goals as goal

pub returns-in-Ok-clause-ends : goal.returns-in-Ok-clause-ends
returns-in-Ok-clause-ends c one two =
    let e : c.get.result.now ≡ c.args.local.now.opened = c.get.ensures ∙ c.in-Some.ensures.2 in
    let f : c.get-2.result.now ≡ c.args.target.now.opened = c.get-2.ensures ∙ c.in-Some-take_loan.ensures.2 in
    inl (inl (refl, subst (λ (p : Opened × Opened). Fields p.0.btf c.args.local_id p.1.btf c.args.target_id (Ok c.in-Ok.yes)) (λ i. (e i, f i)) c.in-Ok.ensures))

pub returns-in-Err-clause-ends : goal.returns-in-Err-clause-ends
returns-in-Err-clause-ends c one two =
    let e : c.get.result.now ≡ c.args.local.now.opened = c.get.ensures ∙ c.in-Some.ensures.2 in
    let f : c.get-2.result.now ≡ c.args.target.now.opened = c.get-2.ensures ∙ c.in-Some-take_loan.ensures.2 in
    let o = refusal_of c.in-Err.error in
    ends_refused c.report.result c.args.answer.now c.report.new.fault o (Fields c.args.local.now.opened.btf c.args.local_id c.args.target.now.opened.btf c.args.target_id)
    (subst (λ (p : Opened × Opened). IfSome o (λ r. Fields p.0.btf c.args.local_id p.1.btf c.args.target_id (Err r))) (λ i. (e i, f i)) c.in-Err.ensures) c.report.ensures
