use Rattle.std.proofs.Common.{◌<◌, get_or, length, ap, arith}
use Rattle.btf_table.proofs.Put.{inside_at, same_at, put_next, replaced_next}
use Rattle.btf_table.proofs.table.changes.swap_types.Goals as goal

pub bounds-types-id : goal.bounds-types-id
bounds-types-id c =
    let lt : c.loop-at.at < length c.loop-at.changed = omega (arith, c.loop-at-test.true, c.loop-at.auto.changed) in
    let inside : _ = inside_at (length c.args.types.now) c.args.changed.now c.loop-at.at c.index-changed-at.result c.requires c.loop-at-test.true in
    omega (arith, inside, c.loop-at.auto.types, ap (λ p. p.0) (same_at c.loop-at.changed c.args.changed.now c.loop-at.at c.index-changed-at.result c.index-changed-at.result c.loop-at.invariant.1 lt))

pub loop-at-preserved : goal.loop-at-preserved
loop-at-preserved c =
    let lt : c.loop-at.at < length c.loop-at.changed = omega (arith, c.loop-at-test.true, c.loop-at.auto.changed) in
    let inside = inside_at (length c.args.types.now) c.args.changed.now c.loop-at.at c.index-changed-at.result c.requires c.loop-at-test.true in
    let here : (get_or c.loop-at.changed c.loop-at.at c.index-changed-at.result).0 < length c.loop-at.types =
    omega (arith, inside, c.loop-at.auto.types, ap (λ p. p.0) (same_at c.loop-at.changed c.args.changed.now c.loop-at.at c.index-changed-at.result c.index-changed-at.result c.loop-at.invariant.1 lt)) in
    let next = put_next c.loop-at.changed c.args.changed.now c.loop-at.types c.args.types.now c.loop-at.at _ _ _ c.swap.new.x lt c.loop-at.auto.changed c.loop-at.invariant.0 c.loop-at.invariant.1 c.swap.ensures.x_after in
    (next.0, next.1, replaced_next c.loop-at.changed c.args.changed.now c.loop-at.types c.args.types.now c.loop-at.at c.index-changed-at.result c.index-changed-at-in-loop-at.result c.index-types-id.result c.swap.new.y lt c.loop-at.auto.changed c.loop-at.invariant.0 c.loop-at.invariant.1 c.loop-at.invariant.2 here c.swap.ensures.y_after)
