use Rattle.std.proofs.Common.{◌<◌, ◌^◌, sym, arith}
use Rattle.std.proofs.lemmas.Option.{slice_get_past}
use Rattle.btf_relocate_model.specs.Field.{members_of}
use Rattle.btf_view.specs.TypeRef.{record_in}
use Rattle.btf_relocate.proofs.Items.{if_some, member_item}
use Rattle.btf_relocate.proofs.kinds.viewed_member.Goals as goal

pub returns-then-index-member_count-clause-member : goal.returns-then-index-member_count-clause-member
returns-then-index-member_count-clause-member c =
    sym (slice_get_past (members_of (record_in c.args.btf_type)) c.args.index (omega (arith, c.member_count.ensures.value, c.if-index-member_count.true)))

pub returns-clause-member : goal.returns-clause-member
returns-clause-member c =
    member_item (record_in c.args.btf_type) c.args.index c.item.result (omega (arith, c.member_count.ensures.value, c.if-index-member_count.false)) c.item.ensures

pub returns-clause-small : goal.returns-clause-small
returns-clause-small c = if_some c.item.result (c.args.index < 2 ^ 16) (omega (arith, c.member_count.ensures.small, c.if-index-member_count.false))
