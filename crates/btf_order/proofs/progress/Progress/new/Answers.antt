use Rattle.std.proofs.Common.{refl}
use Rattle.btf_order.proofs.Starting.{knows_new, none_open}
use Rattle.btf_order.proofs.Ending.{uses_new}
use Rattle.btf_order.proofs.progress.Progress.new.Goals as goal

pub returns-clause-knows : goal.returns-clause-knows
returns-clause-knows c =
    knows_new c.args.table.now.records _ c.type_count-count.result _ c.type_count-count.ensures (c.in_ok-vec.ensures.items_if_clones_equal (λ y e. e)) (c.in_ok-vec-2.ensures.items_if_clones_equal (λ y e. e)) c.requires (c.in_ok-vec-3.ensures.items_if_clones_equal (λ y e. e)) c.new.ensures.items

pub returns-clause-none_open : goal.returns-clause-none_open
returns-clause-none_open c = none_open _ c.type_count-count.result _ refl (c.in_ok-vec.ensures.items_if_clones_equal (λ y e. e)) (c.in_ok-vec-2.ensures.items_if_clones_equal (λ y e. e))

pub returns-clause-uses : goal.returns-clause-uses
returns-clause-uses c = uses_new c.args.table.now.records _ c.type_count-count.result _ refl (c.in_ok-vec.ensures.items_if_clones_equal (λ y e. e)) (c.in_ok-vec-2.ensures.items_if_clones_equal (λ y e. e))
