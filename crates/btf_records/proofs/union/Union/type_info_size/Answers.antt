use Rattle.std.proofs.Common.{length, ap, arith, refl}
use Rattle.btf_plain.specs.Items.{member_words}
use Rattle.btf_plain.proofs.Lists.{length-items}
use Rattle.btf_records.proofs.union.Union.type_info_size.Goals as goal

pub returns-clause-len : goal.returns-clause-len
returns-clause-len c = omega (arith, length-items 3 member_words (λ _. refl) c.members.result.now, ap length c.members.ensures.words)
