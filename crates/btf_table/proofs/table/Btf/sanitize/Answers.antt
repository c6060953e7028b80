use Rattle.std.proofs.Common.{ℕ, List, Err, length, sym, subst}
use Rattle.btf_model.specs.Table.{Table}
use Rattle.std.proofs.lemmas.Option.{IfSome_then}
use Rattle.btf_rewrite_model.specs.Pass.{Pass}
use Rattle.btf_plain.proofs.Refused.{handed_on}
use Rattle.btf_table.specs.Layout.{layout_of}
use Rattle.btf_rewrite_model.specs.declared.feature.FeatureAnswer.{FeatureAnswer}
use Rattle.btf_table.specs.PassStep.{pass_on, given_under}
use Rattle.btf_table.specs.Rewrites.{Sanitizes}
use Rattle.btf_table.specs.Changes.{changed}
use Rattle.btf_table.specs.Denied.{AreTypeIds}
use Rattle.btf_table.proofs.Denials.{ids_changed}
use Rattle.btf_table.proofs.table.Btf.sanitize.Goals as goal

pub returns-in_err-passed-clause-sanitizes : goal.returns-in_err-passed-clause-sanitizes
returns-in_err-passed-clause-sanitizes g c =
    let p : Pass = pass_on c.args.self.now (given_under c.args.request.now.policy (layout_of c.args.request.now.sections.now c.args.request.now.symbols.now)) c.pass_changes.new.resolver.answers in
    handed_on (λ a. a.items) c.in_err-passed.field-0.0 c.from_residual.result (Sanitizes {X = List FeatureAnswer} p c.args.self.now) c.from_residual.ensures.1
    (IfSome_then _ c.in_err-passed.ensures.passes (λ refusal s. let reported : Sanitizes {X = List FeatureAnswer} p c.args.self.now (Err refusal) = (s.0, (s.1, s.2, s.3), s.4) in reported))

pub deny_types-requires : goal.deny_types-requires
deny_types-requires g c =
    let ids : List ℕ = c.in_ok-passed.passed.denied.items in
    subst (λ (t : Table). AreTypeIds (length t.records) c.deref.result.now) (sym c.in_ok-apply.ensures.ok)
    (subst (AreTypeIds (length (changed c.args.self.now c.in_ok-passed.passed.changes).records)) (sym c.deref.ensures.value) (ids_changed c.args.self.now c.in_ok-passed.passed.changes ids c.in_ok-passed.ensures.passes.2))
