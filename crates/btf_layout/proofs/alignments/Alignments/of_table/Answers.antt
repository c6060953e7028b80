use Rattle.std.proofs.Common.{◌≡◌, ◌<◌, ◌≤◌, ℕ, length, arith}
use Rattle.btf_layout.proofs.Answering.{answered}
use Rattle.btf_layout.proofs.alignments.Alignments.of_table.Goals as goal

before_end : (k n id count : ℕ) → k < n → count ≡ n → count ≤ id → k < id
before_end k n id count lt is le = omega arith

pub returns : goal.returns
returns c =
    answered c.args.table.now.records c.loop-id.known.items c.loop-id.invariant.knows c.loop-id.invariant.closed
    (λ k lt. c.loop-id.invariant.done k (before_end k (length c.args.table.now.records) c.loop-id.id c.type_count-id-end.result lt c.type_count-id-end.ensures c.loop-id-test.false))
