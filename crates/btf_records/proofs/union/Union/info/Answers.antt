use Rattle.std.proofs.Common.{length, ap, arith, refl}
use Rattle.btf_model.specs.Record.{vlen}
use Rattle.btf_plain.specs.Items.{member_words}
use Rattle.btf_records.specs.Parts.{parts_members}
use Rattle.btf_plain.proofs.Lists.{length-items}
use Rattle.btf_records.proofs.union.Union.info.Goals as goal

pub returns-clause-tail : goal.returns-clause-tail
returns-clause-tail c =
    omega (arith, length-items 3 member_words (λ _. refl) (parts_members c.self.inside.parts), c.self.invariant.1, ap (λ u. length u.words.tail) c.self.view_is, ap (λ u. vlen u.words.info) c.self.view_is)
