use Rattle.std.proofs.Common.{◌≡◌, ◌<◌, ◌≤◌, ℕ, length, arith}
use Rattle.btf_order.proofs.Covers.{declared_inside}
use Rattle.btf_order.proofs.Ending.{all_known, no_object_loop}
use Rattle.btf_order.proofs.order.header_order.Goals as goal

before_end : (k n id count : ℕ) → k < n → count ≡ n → count ≤ id → k < id
before_end k n id count lt is le = omega arith

pub returns-clause-order : goal.returns-clause-order
returns-clause-order c = record {
  ordered = c.loop-id.invariant.knows.ordered;
  only = c.loop-id.invariant.knows.only;
  all = λ k d. (c.loop-id.invariant.knows.complete k
      (c.loop-id.invariant.done k (before_end k (length c.args.table.now.records) c.loop-id.id c.type_count-id-end.result (declared_inside c.args.table.now.records k d) c.type_count-id-end.ensures c.loop-id-test.false))).0 d;
}

pub returns-clause-known : goal.returns-clause-known
returns-clause-known c = all_known c.args.table.now.records (λ k lt. c.loop-id.invariant.uses.complete k (c.loop-id.invariant.done k (before_end k (length c.args.table.now.records) c.loop-id.id c.type_count-id-end.result lt c.type_count-id-end.ensures c.loop-id-test.false)))

pub returns-clause-no_loop : goal.returns-clause-no_loop
returns-clause-no_loop c = no_object_loop c.args.table.now.records (λ k lt. c.loop-id.invariant.uses.complete k (c.loop-id.invariant.done k (before_end k (length c.args.table.now.records) c.loop-id.id c.type_count-id-end.result lt c.type_count-id-end.ensures c.loop-id-test.false)))
