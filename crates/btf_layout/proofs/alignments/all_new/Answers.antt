use Rattle.btf_layout.proofs.Answering.{if_ok, all_new, none_open_yet}
use Rattle.btf_layout.proofs.alignments.all_new.Goals as goal

pub returns-clause-known : goal.returns-clause-known
returns-clause-known c =
    if_ok _ _ c.vec.result (λ v h. all_new c.args.table.now.records v.items c.type_count.result c.type_count.ensures (h (λ y e. e))) c.vec.ensures.items_if_clones_equal

pub returns-clause-closed : goal.returns-clause-closed
returns-clause-closed c =
    if_ok _ _ c.vec.result (λ v h. none_open_yet c.args.table.now.records v.items c.type_count.result (h (λ y e. e))) c.vec.ensures.items_if_clones_equal
