use Rattle.std.proofs.Common.{◌≤◌, arith}
use Rattle.btf_plain.proofs.Lists.{first_items}
use Rattle.btf_plain.proofs.item_list.ItemList.read.Goals as goal

pub returns-in-Ok : goal.returns-in-Ok
returns-in-Ok g c =
    let le : c.args.count ≤ g.row.N = omega (arith, c.in-Some.ensures.0, c.in-Some.ensures.1) in
    rw c.in-Some.ensures.0 (first_items g.T.Item.WIDTH g.T.Item.item_words g.met.T.Item.item_width c.args.endianness c.args.bytes.now c.args.count g.row.N c.in-Ok.items le c.in-Ok.ensures)
