use Rattle.btf_view.proofs.Fills.{FormsSoFar}
use Rattle.btf_view.proofs.filling.fill_items.Given as goal

abbrev pub invariant-loop-index : goal.invariant-loop-index
invariant-loop-index g l = FormsSoFar g.T.Item.WIDTH g.T.Item.item_words (g.T.Listed.form l.info) l.endianness l.tail l.initial.out l.out l.index
