use Rattle.std.proofs.Common.{◌*◌, refl, arith}
use Rattle.btf_model.specs.Record.{vlen}
use Rattle.btf_model.specs.Word.{words_at}
use Rattle.btf_view.specs.Items.{member_forms}
use Rattle.btf_view.proofs.Appended.{appended}
use Rattle.btf_view.proofs.Fills.{count_members}
use Rattle.btf_view.proofs.filling.append_items.Goals as goal

pub returns-then-out-at-clause-items : goal.returns-then-out-at-clause-items
returns-then-out-at-clause-items c long =
    (omega (arith, c.requires, c.if-out-at.true, c.vlen_of.ensures.value, count_members c.args.endianness c.args.info (vlen c.args.info) c.args.tail.now), refl)

pub returns-clause-items : goal.returns-clause-items
returns-clause-items c long =
    let items = member_forms c.args.info (words_at c.args.endianness (3 * vlen c.args.info) c.args.tail.now) in
    appended items c.args.out.now c.fill_items.new.out c.args.at c.fill_items.result c.requires
    (omega (arith, c.if-out-at.false, c.vlen_of.ensures.value, count_members c.args.endianness c.args.info (vlen c.args.info) c.args.tail.now)) (c.fill_items.ensures.items long)
