use Rattle.std.proofs.Common.{List, ℕ, None, map, subst}
use Rattle.btf_object.specs.Errors.{target_of, IsSanitizeCause}
use Rattle.btf_object_model.specs.Sanitized.{IsSanitized}
use Rattle.btf_relocate.specs.Sections.{is_shared}
use Rattle.btf_loader.specs.Prepared.{IsPrepareCause}
use Rattle.btf_loader.specs.Results.{outcomes_of, refuses_errors}
use Rattle.btf_loader.specs.declared.error.PrepareError.TheVariants.{Sanitize}
use Rattle.btf_loader.proofs.Causes.{becomes}
use Rattle.btf_loader.proofs.prepare.prepare_object.Goals as goal

pub returns-in_err-file-clause-cause : goal.returns-in_err-file-clause-cause
returns-in_err-file-clause-cause c =
    becomes (IsPrepareCause c.args.bytes.now c.args.target.now (is_shared c.args.policy) (refuses_errors c.args.refusals) (target_of c.args.kernel.now c.args.fill None)) (Sanitize c.in_err-file.field-0.0) c.from_residual-in_err-file.result
    (c.in_ok-relocated.relocated.items, map outcomes_of c.in_ok-relocated.outcomes.items, c.in_ok-relocated.ensures.relocated, subst (λ (b : List ℕ). IsSanitizeCause b (target_of c.args.kernel.now c.args.fill None) c.in_err-file.field-0.0) c.deref.ensures.value c.in_err-file.ensures.refused)
    c.from_residual-in_err-file.ensures.1

pub returns-clause-prepared : goal.returns-clause-prepared
returns-clause-prepared c = record {
  middle = c.in_ok-relocated.relocated.items;
  relocated = c.in_ok-relocated.ensures.relocated;
  sanitized = subst (λ (b : List ℕ). IsSanitized b (target_of c.args.kernel.now c.args.fill None) c.in_ok-file.file.items c.in_ok-file.answers.items) c.deref.ensures.value c.in_ok-file.ensures.sanitized;
}
