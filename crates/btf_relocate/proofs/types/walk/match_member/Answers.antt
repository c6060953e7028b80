use Rattle.std.proofs.Common.{◌+◌, ℕ, Bool, Option, Result, Ok, drop, subst, sym, refl, ap, ◌∙◌}
use Rattle.btf_relocate_model.specs.declared.error.RelocationError.{RelocationError}
use Rattle.btf_relocate.specs.Members.{member_of, members_held}
use Rattle.btf_relocate.specs.Steps.{NamedMember}
use Rattle.btf_relocate.proofs.Compatibles.{from_err}
use Rattle.btf_relocate.proofs.Definitions.{no_name, with_name, other_name, no_more}
use Rattle.btf_relocate.proofs.Pointers.{element_at, none_there}
use Rattle.btf_relocate.proofs.types.walk.match_member.Goals as goal

pub returns-in_default-clause-found : goal.returns-in_default-clause-found
returns-in_default-clause-found c = λ inner.
    let others = members_held c.args.others.now in
    no_more c.args.local.now c.args.target.now (member_of c.args.member.now) others c.loop-index.index c.args.from c.loop-index.invariant
    (none_there others c.loop-index.index (sym c.in_default.ensures.member)) inner

pub returns-in_err-names_match-clause-found : goal.returns-in_err-names_match-clause-found
returns-in_err-names_match-clause-found c =
    let m = member_of c.args.member.now in
    let others = members_held c.args.others.now in
    let e = c.in_err-names_match.field-0.0 in
    let o = member_of c.in-Some.found in
    subst (λ (r : Result (Option (ℕ × ℕ)) RelocationError). NamedMember c.args.local.now c.args.target.now m others (drop c.args.from others) r)
    (sym (from_err c.from_residual.result e c.from_residual.ensures.1))
    (λ inner. no_name c.args.local.now c.args.target.now m others c.loop-index.index c.args.from c.loop-index.invariant o (element_at others c.loop-index.index o (sym c.in-Some.ensures.member)) inner e (sym c.in_err-names_match.ensures))

pub returns-then-branch-clause-found : goal.returns-then-branch-clause-found
returns-then-branch-clause-found c = λ inner.
    let others = members_held c.args.others.now in
    let o = member_of c.in-Some.found in
    with_name c.args.local.now c.args.target.now (member_of c.args.member.now) others c.loop-index.index c.args.from c.loop-index.invariant o (element_at others c.loop-index.index o (sym c.in-Some.ensures.member)) inner
    (sym c.in_ok-names_match.ensures ∙ ap (λ (b : Bool). let r : Result Bool RelocationError = Ok b in r) c.if-branch.true) (c.loop-index.index + 1) refl

pub loop-index-preserved : goal.loop-index-preserved
loop-index-preserved c = λ inner.
    let others = members_held c.args.others.now in
    let o = member_of c.in-Some.found in
    other_name c.args.local.now c.args.target.now (member_of c.args.member.now) others c.loop-index.index c.args.from c.loop-index.invariant o (element_at others c.loop-index.index o (sym c.in-Some.ensures.member)) inner
    (sym c.in_ok-names_match.ensures ∙ ap (λ (b : Bool). let r : Result Bool RelocationError = Ok b in r) c.if-branch.false)
