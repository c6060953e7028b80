use Rattle.btf_table.proofs.Enum64s.{members_all}
use Rattle.btf_table.proofs.sanitize.enumeration64.variant_members.Goals as goal

pub returns-clause-words : goal.returns-clause-words
returns-clause-words c = members_all c.args.member_type c.loop-variant.members.items c.args.variants.now c.loop-variant.variant-index c.loop-variant-test.false c.loop-variant.invariant.0
