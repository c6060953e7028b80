use Rattle.std.proofs.Common.{List, ℕ, None, Some, sym, ap, subst, ◌∙◌}
use Rattle.std.proofs.lemmas.Bool.{false≢true}
use Rattle.btf_object_model.specs.Kernel.{IsNumber, ends_version}
use Rattle.btf_object.proofs.Versions.{splits, minor_is, end_is}
use Rattle.btf_object.proofs.version.read_version.Goals as goal

pub returns-in_err-major-clause-none : goal.returns-in_err-major-clause-none
returns-in_err-major-clause-none c = rw c.from_residual.ensures (λ v is. splits c.args.text.now v is None c.in_err-major.ensures.cases)

pub returns-then-not-ends_version-clause-none : goal.returns-then-not-ends_version-clause-none
returns-then-not-ends_version-clause-none c = λ v is.
    let parts = splits c.args.text.now v is (Some (c.in_ok-major.major, c.in_ok-major.rest)) c.in_ok-major.ensures.cases in
    let rest = c.split_digits.ensures.back ∙ end_is c.args.text.now v is c.in_ok-major.rest.now parts.1 in
    false≢true (sym c.if-not-ends_version.true ∙ c.ends_version.ensures ∙ ap ends_version rest ∙ is.6)

pub returns-in_err-major-2-clause-none : goal.returns-in_err-major-2-clause-none
returns-in_err-major-2-clause-none c =
    rw c.from_residual-in_err-major-2.ensures
    (λ v is.
    let parts = splits c.args.text.now v is (Some (c.in_ok-major.major, c.in_ok-major.rest)) c.in_ok-major.ensures.cases in
    c.in_err-major-2.ensures.none v.major (subst (λ (text : List ℕ). IsNumber text v.major) (sym parts.0) is.4))

pub returns-in_err-minor-clause-none : goal.returns-in_err-minor-clause-none
returns-in_err-minor-clause-none c =
    rw c.from_residual-in_err-minor.ensures
    (λ v is.
    let parts = splits c.args.text.now v is (Some (c.in_ok-major.major, c.in_ok-major.rest)) c.in_ok-major.ensures.cases in
    let minor = c.split_digits.ensures.front ∙ minor_is c.args.text.now v is c.in_ok-major.rest.now parts.1 in
    c.in_err-minor.ensures.none v.minor (subst (λ (text : List ℕ). IsNumber text v.minor) (sym minor) is.5))
