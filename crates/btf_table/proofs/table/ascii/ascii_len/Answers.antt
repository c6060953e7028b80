use Rattle.std.proofs.Common.{◌+◌, ◌<◌, ◌≤◌, length, arith}
use Rattle.btf_table.proofs.Ascii.{ascii_on, ascii_ends, none_ends, few_before, begins_before}
use Rattle.btf_table.proofs.table.ascii.ascii_len.Goals as goal

pub overflow_add-result : goal.overflow_add-result
overflow_add-result c =
    let room : c.loop-at.at + 16 ≤ length c.args.bytes.now = omega (arith, c.loop-at-test.true, c.loop-at.invariant.within) in
    let few : c.runs_at-zero.result.1 < 16 = few_before c.args.bytes.now c.loop-at.at c.runs_at-zero.result.0 c.runs_at-zero.result.1 room c.runs_at-zero.ensures.zero c.runs_at-zero.ensures.other c.loop-at.invariant.each c.if-other-zero.true in
    omega (arith, few, room)

pub returns-then-other-zero-clause-ascii : goal.returns-then-other-zero-clause-ascii
returns-then-other-zero-clause-ascii c =
    let room : c.loop-at.at + 16 ≤ length c.args.bytes.now = omega (arith, c.loop-at-test.true, c.loop-at.invariant.within) in
    begins_before c.args.bytes.now c.loop-at.at c.runs_at-zero.result.0 c.runs_at-zero.result.1 room c.runs_at-zero.ensures.zero c.runs_at-zero.ensures.other c.loop-at.invariant.each c.if-other-zero.true

pub returns-then-other-zero-clause-none : goal.returns-then-other-zero-clause-none
returns-then-other-zero-clause-none c long end =
    let room : c.loop-at.at + 16 ≤ length c.args.bytes.now = omega (arith, c.loop-at-test.true, c.loop-at.invariant.within) in
    none_ends c.args.bytes.now c.loop-at.at c.runs_at-zero.result.0 c.runs_at-zero.result.1 room c.runs_at-zero.ensures.zero c.runs_at-zero.ensures.other c.loop-at.invariant.each c.if-other-zero.true end

pub returns-then-zero-lt-LANES-clause-found : goal.returns-then-zero-lt-LANES-clause-found
returns-then-zero-lt-LANES-clause-found c =
    let room : c.loop-at.at + 16 ≤ length c.args.bytes.now = omega (arith, c.loop-at-test.true, c.loop-at.invariant.within) in
    ascii_ends c.args.bytes.now c.loop-at.at c.runs_at-zero.result.0 c.runs_at-zero.result.1 room c.runs_at-zero.ensures.zero c.runs_at-zero.ensures.other c.loop-at.invariant.each c.if-other-zero.false c.if-zero-lt-LANES.true

pub after_first_block-at-requires : goal.after_first_block-at-requires
after_first_block-at-requires c =
    let room : c.loop-at.at + 16 ≤ length c.args.bytes.now = omega (arith, c.loop-at-test.true, c.loop-at.invariant.within) in
    record {
      within = room;
      each = ascii_on c.args.bytes.now c.loop-at.at c.runs_at-zero.result.0 c.runs_at-zero.result.1 room c.runs_at-zero.ensures.zero c.runs_at-zero.ensures.other c.loop-at.invariant.each (c.loop-at.at + 16) (omega (arith, c.if-zero-lt-LANES.false)) (omega (arith, c.if-zero-lt-LANES.false, c.if-other-zero.false));
    }
