use Rattle.std.proofs.Common.{◌≡◌, ap, rules}
use Rattle.std.proofs.Common.{List}
use Rattle.btf_model.specs.Refusal.{Refusal}
use Rattle.btf_rewrite_model.specs.declared.feature.FeatureAnswer.{FeatureAnswer}
use Rattle.btf_rewrite_model.proofs.Kernels.{rewritten_alike, refused_alike}
use Rattle.btf_table.specs.Features.{Resolver}
use Rattle.btf_table.specs.Layout.{layout_of}
use Rattle.btf_rewrite_model.specs.FeatureSet.{answers_of}
use Rattle.btf_object.specs.Kernel.{kernel_has}
use Rattle.btf_rewrite_model.proofs.FeatureSet.{AreOfKernel, kernel_agrees}
use Rattle.btf_object.proofs.Kernels.{all_of_kernel}
use Rattle.btf_object.proofs.Rewrites.{passed_on}
use Rattle.btf_object.proofs.table.rewrite_for.Given.{Over}
use Rattle.btf_object.proofs.table.rewrite_for.Goals as goal
use Rattle.btf_object.proofs.table.rewrite_for.Goals.{After-fixup_and_sanitize_with}

-- each answer is whether the kernel has the feature
of_kernel : (g : Over) (c : After-fixup_and_sanitize_with g) → AreOfKernel (kernel_has c.args.kernel.now) c.fixup_and_sanitize_with.new.resolver.answers
of_kernel g c =
    let before : c.new-resolver.result.predicate.0.now ≡ c.args.kernel.now = ap (λ (r : Resolver _). r.predicate.0.now) c.new-resolver.ensures in
    all_of_kernel _ (kernel_has c.args.kernel.now) (λ f. f.0.now ≡ c.args.kernel.now) (λ f g feature granted is s. (search rules, search rules)) c.new-resolver.result.predicate c.fixup_and_sanitize_with.new.resolver.answers c.fixup_and_sanitize_with.new.resolver.predicate before
    c.fixup_and_sanitize_with.ensures.called

pub returns-in_err-answers-clause-refused : goal.returns-in_err-answers-clause-refused
returns-in_err-answers-clause-refused g c =
    let raw : List FeatureAnswer = c.fixup_and_sanitize_with.new.resolver.answers in
    let are = of_kernel g (goal.at.returns-in_err-answers-clause-refused g c).After-fixup_and_sanitize_with in
    passed_on _ _ c.in_err-answers.field-0.0 c.from_residual.result
    (λ (refusal : Refusal) is. refused_alike c.args.policy c.args.btf.now c.args.ids (layout_of c.args.layout.now.sections c.args.layout.now.symbols) raw (answers_of (kernel_has c.args.kernel.now)) refusal is (kernel_agrees (kernel_has c.args.kernel.now) raw are))
    c.in_err-answers.ensures.rewrites c.from_residual.ensures.1

pub returns-clause-rewritten : goal.returns-clause-rewritten
returns-clause-rewritten g c =
    let raw : List FeatureAnswer = c.fixup_and_sanitize_with.new.resolver.answers in
    let are = of_kernel g (goal.at.returns-clause-rewritten g c).After-fixup_and_sanitize_with in
    rewritten_alike c.args.policy c.args.btf.now c.fixup_and_sanitize_with.new.self c.args.ids (layout_of c.args.layout.now.sections c.args.layout.now.symbols) raw (answers_of (kernel_has c.args.kernel.now)) c.in_ok-answers.ensures.rewrites.0
    c.in_ok-answers.ensures.rewrites.1 (kernel_agrees (kernel_has c.args.kernel.now) raw are)

pub returns-clause-answers : goal.returns-clause-answers
returns-clause-answers g c =
    let are = of_kernel g (goal.at.returns-clause-answers g c).After-fixup_and_sanitize_with in
    rw c.in_ok-answers.ensures.answers (record { of_kernel = are; asked_for = c.in_ok-answers.ensures.rewrites.1 })
