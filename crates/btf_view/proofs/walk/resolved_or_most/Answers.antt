use Rattle.std.proofs.Common.{inl, inr, refl}
use Rattle.btf_view.proofs.walk.resolved_or_most.Goals as goal

pub returns-in_default : goal.returns-in_default
returns-in_default c records h =
    let refused = c.in_default.ensures records h in
    inr (refl, refused.0, refused.2)

pub returns : goal.returns
returns c records h = inl (c.in-Ok.ensures records h)
