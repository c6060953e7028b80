use Rattle.std.proofs.Common.{◌≡◌, ap, subst, rules}
use Rattle.btf_model.specs.Table.{Table}
use Rattle.btf_rewrite_model.specs.Pass.{Layout, Asked, no_layout}
use Rattle.btf_rewrite_model.specs.Rewritten.{Rewritten, pass_of}
use Rattle.btf_rewrite_model.specs.FeatureSet.{answers_of}
use Rattle.btf_rewrite_model.proofs.FeatureSet.{AreOfKernel, kernel_agrees}
use Rattle.btf_rewrite_model.proofs.Kernels.{rewritten_alike}
use Rattle.btf_table.specs.Features.{Resolver}
use Rattle.btf_table.specs.Layout.{layout_of}
use Rattle.btf_table.specs.Rewrites.{features_asked}
use Rattle.btf_object_model.specs.Sanitized.{Target}
use Rattle.btf_object.proofs.Kernels.{all_of_kernel}
use Rattle.btf_object.proofs.Named.{layouts_alike}
use Rattle.btfobj_cli.specs.Rewrite.{chosen_target}
use Rattle.btfobj_cli.proofs.rewrite.rewrite_table.Goals as goal

pub returns : goal.returns
returns c =
    let target : Target = chosen_target c.args.rewrite.now in
    let call = c.fixup_and_sanitize_with in
    let answers = call.new.resolver.answers in
    let old : Table = c.args.table.now in
    let new : Table = call.new.self in
    let layout : Layout = layout_of c.no_sections-sections.result c.no_symbols-symbols.result in
    let same : layout ≡ no_layout = layouts_alike layout no_layout c.no_sections-sections.ensures c.no_symbols-symbols.ensures in
    let before = ap (λ (r : Resolver _). r.predicate.0.now) c.new-resolver.ensures in
    let are : AreOfKernel target.has answers = all_of_kernel _ target.has (λ f. f.0.now ≡ c.args.rewrite.now.kernel) (λ f g feature granted is s. (search rules, search rules)) c.new-resolver.result.predicate answers call.new.resolver.predicate before call.ensures.called in
    let Known : Layout → Type 0 = λ l. Rewritten target.policy old c.in_ok-ids.ids l answers new × (features_asked answers ≡ Asked (pass_of target.policy old c.in_ok-ids.ids l answers)) in
    let known : Known no_layout = subst Known same c.in_ok-fixup_and_sanitize_with.ensures.rewrites in
    rw c.in_ok-fixup_and_sanitize_with.ensures.answers record {
      ids = c.in_ok-ids.ids;
      ksyms = c.in_ok-ids.ensures;
      rewritten = rewritten_alike target.policy old new c.in_ok-ids.ids no_layout answers (answers_of target.has) known.0 known.1 (kernel_agrees target.has answers are);
      answers_are = record { of_kernel = are; asked_for = known.1 };
    }
