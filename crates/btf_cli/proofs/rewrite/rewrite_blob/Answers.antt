use Rattle.std.proofs.Common.{◌≡◌, ap, rules, ◌∙◌}
use Rattle.btf_table.specs.Features.{Resolver}
use Rattle.btf_table.specs.Layout.{layout_of}
use Rattle.btf_cli.proofs.Kernel.{AreNamed, all_named, kernel_agrees, policy_is}
use Rattle.btf_cli.proofs.Rewritings.{layout_is, IsFor, rewritten_answer, rewritten_declined, refusal_through}
use Rattle.btf_cli.proofs.rewrite.rewrite_blob.Goals as goal
use Rattle.btf_cli.proofs.rewrite.rewrite_blob.Goals.{After-rewrite_bytes_with}

-- the answers and the maps are the request's
for_request : (c : After-rewrite_bytes_with) → IsFor c.args.request (layout_of c.in_ok-sections.sections c.in_ok-symbols.symbols) c.policy.result c.rewrite_bytes_with.new.resolver.answers c.requires.0
for_request c =
    let before : c.new-resolver.result.predicate.0.now ≡ c.args.request = ap (λ (r : Resolver _). r.predicate.0.now) c.new-resolver.ensures in
    let named : AreNamed c.args.request c.rewrite_bytes_with.new.resolver.answers =
    all_named _ c.args.request (λ f. f.0.now ≡ c.args.request) (λ f g feature granted is s. (search rules, search rules)) c.new-resolver.result.predicate c.rewrite_bytes_with.new.resolver.answers c.rewrite_bytes_with.new.resolver.predicate before c.rewrite_bytes_with.ensures.called in
    record {
      are_set = c.requires.1;
      same_layout = layout_is (layout_of c.in_ok-sections.sections c.in_ok-symbols.symbols) c.requires.0 (c.in_ok-sections.ensures c.requires.0 c.requires.1.all) (c.in_ok-symbols.ensures c.requires.0 c.requires.1.all);
      same_policy = c.policy.ensures ∙ policy_is c.args.request c.requires.0 c.requires.1;
      agree = kernel_agrees c.args.request c.requires.0 c.rewrite_bytes_with.new.resolver.answers c.requires.1 named;
    }

pub returns-clause-made : goal.returns-clause-made
returns-clause-made c =
    rewritten_answer c.args.request (layout_of c.in_ok-sections.sections c.in_ok-symbols.symbols) c.policy.result c.rewrite_bytes_with.new.resolver.answers c.requires.0 (for_request (goal.at.returns-clause-made c).After-rewrite_bytes_with) c.args.endianness
    c.args.blob.now c.in_ok-bytes.bytes.items c.in_ok-bytes.field-0-1.items c.in_ok-bytes.ensures.rewrites

pub returns-in_err-bytes-clause-reported : goal.returns-in_err-bytes-clause-reported
returns-in_err-bytes-clause-reported c =
    refusal_through _ _ c.in_err-bytes.field-0.0 c.from_residual-in_err-bytes.result
    (rewritten_declined c.args.request (layout_of c.in_ok-sections.sections c.in_ok-symbols.symbols) c.policy.result c.rewrite_bytes_with.new.resolver.answers c.requires.0 (for_request (goal.at.returns-in_err-bytes-clause-reported c).After-rewrite_bytes_with)
    c.args.endianness c.args.blob.now)
    c.in_err-bytes.ensures.rewrites c.from_residual-in_err-bytes.ensures.1
