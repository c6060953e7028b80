use Rattle.std.proofs.Common.{◌≡◌, None, List, sym, subst, arith, ◌∙◌}
use Rattle.btf_rewrite_model.specs.declared.feature.FeatureAnswer.{FeatureAnswer}
use Rattle.btf_rewrite_model.specs.Feature.{answer_to}
use Rattle.btf_table.specs.Features.{AreDistinct}
use Rattle.btf_table.proofs.Answered.{has_room, distinct_with}
use Rattle.btf_table.proofs.sanitize.features.BtfFeatureResolver.is_supported.Goals as goal

pub push-requires : goal.push-requires
push-requires g c = (
  omega arith,
  has_room c.self.inside.answers.items (record { feature = c.args.feature; granted = c.call_mut-granted.result }) c.self.invariant
      (subst (λ (answers : List FeatureAnswer). answer_to answers c.args.feature ≡ None) c.deref.ensures.0 (sym c.answer_to.ensures ∙ c.in_default.is)),
)

pub invariant_of-self : goal.invariant_of-self
invariant_of-self g c =
    subst AreDistinct (sym c.push.ensures.items) (distinct_with c.self.inside.answers.items (record { feature = c.args.feature; granted = c.call_mut-granted.result }) c.self.invariant
    (subst (λ (answers : List FeatureAnswer). answer_to answers c.args.feature ≡ None) c.deref.ensures.0 (sym c.answer_to.ensures ∙ c.in_default.is)))
