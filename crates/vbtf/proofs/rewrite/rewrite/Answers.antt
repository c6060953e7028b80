use Rattle.std.proofs.Common.{◌≡◌, List, Option, rules, ap, subst}
use Rattle.btf_rewrite_model.specs.Rewritten.{pass_of}
use Rattle.btf_rewrite_model.specs.declared.feature.FeatureAnswer.{FeatureAnswer}
use Rattle.btf_rewrite_model.specs.declared.feature.FillPolicy.{FillPolicy}
use Rattle.btf_rewrite_model.specs.declared.ksyms_ids.KsymsIds.{KsymsIds}
use Rattle.btf_table.specs.Features.{Resolver}
use Rattle.btf_table.specs.PassStep.{BeginsAsked}
use Rattle.btf.specs.Layout.{layout_of}
use Rattle.btf_plain.specs.Error.{MeetsOrNoMemory}
use Rattle.vbtf.specs.Kernel.{AreAnswersOf, ListsAnswers, RewritesForKernel, policy_chosen, ids_chosen}
use Rattle.vbtf.proofs.Kernels.{all_of, few_answers, for_kernel, granted_for}
use Rattle.vbtf.proofs.rewrite.rewrite.Goals as goal
use Rattle.vbtf.proofs.rewrite.rewrite.Goals.{After-fixup_and_sanitize_with-answers}

-- each answer is the kernel's bit
of_kernel : (c : After-fixup_and_sanitize_with-answers) → AreAnswersOf c.args.kernel.now.features c.fixup_and_sanitize_with-answers.new.resolver.answers
of_kernel c =
    let kernel = c.args.kernel.now in
    let call = c.fixup_and_sanitize_with-answers in
    let before = ap (λ (r : Resolver _). r.predicate.0.now) c.new-resolver.ensures in
    all_of _ kernel.features (λ f. f.0.now ≡ kernel) (λ f g feature granted is s. (search rules, search rules)) c.new-resolver.result.predicate call.new.resolver.answers call.new.resolver.predicate before call.ensures.called

pub list-requires : goal.list-requires
list-requires c = few_answers _ c.answers.ensures.distinct

pub returns-clause-asked : goal.returns-clause-asked
returns-clause-asked c =
    let kernel = c.args.kernel.now in
    let call = c.fixup_and_sanitize_with-answers in
    let layout = layout_of c.args.program.now.sections c.args.program.now.symbols in
    let answers : List FeatureAnswer = call.new.resolver.answers in (
      answers,
      subst (λ (xs : List FeatureAnswer). ListsAnswers c.list.new.self xs) c.answers.ensures.answers c.list.ensures,
      of_kernel (goal.at.returns-clause-asked c).After-fixup_and_sanitize_with-answers,
      subst (λ (ids : Option KsymsIds). BeginsAsked (pass_of (policy_chosen kernel) c.args.btf.now ids layout answers)) c.ksyms_ids-ids.ensures
          (subst (λ (policy : FillPolicy). BeginsAsked (pass_of policy c.args.btf.now c.ksyms_ids-ids.result layout answers)) c.policy-policy.ensures call.ensures.asked),
    )

pub returns-clause-rewrites : goal.returns-clause-rewrites
returns-clause-rewrites c =
    let kernel = c.args.kernel.now in
    let call = c.fixup_and_sanitize_with-answers in
    let layout = layout_of c.args.program.now.sections c.args.program.now.symbols in
    let of = of_kernel (goal.at.returns-clause-rewrites c).After-fixup_and_sanitize_with-answers in
    let for = for_kernel kernel.features c.policy-policy.result c.args.btf.now c.ksyms_ids-ids.result layout call.new.self call.new.resolver.answers call.result of call.ensures.answers call.ensures.rewrites in
    subst (λ ids. MeetsOrNoMemory (λ a. a.items) call.result (RewritesForKernel kernel.features (record { policy = policy_chosen kernel; ksyms = ids; layout = layout }) c.args.btf.now call.new.self)) c.ksyms_ids-ids.ensures
    (subst (λ policy. MeetsOrNoMemory (λ a. a.items) call.result (RewritesForKernel kernel.features (record { policy = policy; ksyms = c.ksyms_ids-ids.result; layout = layout }) c.args.btf.now call.new.self)) c.policy-policy.ensures for)

pub returns-clause-granted : goal.returns-clause-granted
returns-clause-granted c =
    let kernel = c.args.kernel.now in
    let call = c.fixup_and_sanitize_with-answers in
    granted_for c.policy-policy.result (policy_chosen kernel) c.args.btf.now call.new.self c.ksyms_ids-ids.result (ids_chosen kernel) call.new.resolver.answers call.result c.policy-policy.ensures c.ksyms_ids-ids.ensures call.ensures.answers call.ensures.granted
