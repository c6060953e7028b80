use Rattle.std.proofs.Common.{refl, subst, inl, inr}
use Rattle.btf_object_model.specs.Sanitized.{IsSanitized}
use Rattle.btf_object.specs.Errors.{IsSanitizeCause}
use Rattle.vbtf.specs.Kernel.{ListsAnswers}
use Rattle.vbtf.specs.Status.{Fills}
use Rattle.vbtf.proofs.Objects.{chosen, cause_is_no_success}
use Rattle.vbtf.proofs.object.vbtf_raw_sanitize_object.Goals as goal

pub returns-in-Ok-sanitize_object_with-clause-sanitized : goal.returns-in-Ok-sanitize_object_with-clause-sanitized
returns-in-Ok-sanitize_object_with-clause-sanitized c = λ utf8.
    let is = chosen c.of_bits-features.result c.args.kernel.now c.policy.result _ _ c.args.placeholder.now c.of_bits-features.ensures c.policy.ensures c.named.ensures c.in-Ok.ensures.cases.0 in
    let file = c.in-Ok-sanitize_object_with.file.items in
    let answers = c.in-Ok-sanitize_object_with.answers.items in
    inl (file, answers, subst (λ t. IsSanitized c.args.object.now t file answers) is c.in-Ok-sanitize_object_with.ensures.sanitized, subst (λ found. ListsAnswers c.list.new.self found) c.deref.ensures.0 c.list.ensures, subst (λ bytes. Fills bytes c.args.out.now c.fill.new.out c.fill.new.needed c.fill.result) c.deref-in-Ok-sanitize_object_with.ensures.value c.fill.ensures)

pub returns-in-Err-clause-sanitized : goal.returns-in-Err-clause-sanitized
returns-in-Err-clause-sanitized c = λ utf8.
    let is = chosen c.of_bits-features.result c.args.kernel.now c.policy.result _ _ c.args.placeholder.now c.of_bits-features.ensures c.policy.ensures c.named.ensures c.in-Ok.ensures.cases.0 in
    inr (refl, (c.in-Err.error, subst (λ t. IsSanitizeCause c.args.object.now t c.in-Err.error) is c.in-Err.ensures.refused, c.report_cause.ensures))

pub returns-in-Ok-sanitize_object_with-clause-ext : goal.returns-in-Ok-sanitize_object_with-clause-ext
returns-in-Ok-sanitize_object_with-clause-ext c = λ utf8 zero o index s has.
    let kept = c.in-Ok-sanitize_object_with.ensures.ext o index s has in (
      c.in-Ok-sanitize_object_with.file.items,
      subst (λ bytes. Fills bytes c.args.out.now c.fill.new.out c.fill.new.needed c.fill.result) c.deref-in-Ok-sanitize_object_with.ensures.value c.fill.ensures,
      kept.0,
      kept.1,
    )

pub returns-in-Err-clause-ext : goal.returns-in-Err-clause-ext
returns-in-Err-clause-ext c = λ utf8 zero. absurd (cause_is_no_success c.report_cause.result c.report_cause.new.fault c.in-Err.error c.report_cause.ensures zero)
