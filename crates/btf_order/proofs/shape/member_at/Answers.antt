use Rattle.std.proofs.Common.{false, length, refl}
use Rattle.std.proofs.lemmas.Option.{slice_get_read}
use Rattle.btf_order.specs.Shape.{member_type}
use Rattle.btf_order.proofs.Types.{use_at}
use Rattle.btf_order.proofs.shape.member_at.Goals as goal

pub returns-clause-uses : goal.returns-clause-uses
returns-clause-uses c =
    use_at member_type c.args.members.now c.args.index _ false
    (slice_get_read c.args.members.now (length c.args.members.now) c.args.index c.in_ok-get.field-0.now refl c.in_ok-get.ensures.lookup.3.0 c.in_ok-get.ensures.lookup.1)
