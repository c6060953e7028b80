use Rattle.std.proofs.Common.{◌+◌, ◌-◌, ◌≤◌, length, arith}
use Rattle.btf_table.proofs.Ascii.{AreAscii, ascii_ends, none_ends, nothing_ends}
use Rattle.btf_table.proofs.table.ascii.last_ascii_len.Goals as goal

pub returns-then-zero-other-clause-found : goal.returns-then-zero-other-clause-found
returns-then-zero-other-clause-found c =
    let bytes = c.args.bytes.now in
    let last = length bytes - 16 in
    let room : last + 16 ≤ length bytes = omega (arith, c.requires.long) in
    let before : AreAscii bytes last = λ k lt. c.requires.begins.each k (omega (arith, lt, c.requires.few, c.requires.long)) in
    ascii_ends bytes last c.runs_at-zero.result.0 c.runs_at-zero.result.1 room c.runs_at-zero.ensures.zero c.runs_at-zero.ensures.other before c.if-zero-other.true c.if-zero-lt-LANES.true

pub returns-else-zero-other-clause-none : goal.returns-else-zero-other-clause-none
returns-else-zero-other-clause-none c end =
    let bytes = c.args.bytes.now in
    let last = length bytes - 16 in
    let room : last + 16 ≤ length bytes = omega (arith, c.requires.long) in
    let before : AreAscii bytes last = λ k lt. c.requires.begins.each k (omega (arith, lt, c.requires.few, c.requires.long)) in
    none_ends bytes last c.runs_at-zero.result.0 c.runs_at-zero.result.1 room c.runs_at-zero.ensures.zero c.runs_at-zero.ensures.other before c.if-zero-other.false end

pub returns-else-zero-lt-LANES-clause-none : goal.returns-else-zero-lt-LANES-clause-none
returns-else-zero-lt-LANES-clause-none c end =
    let bytes = c.args.bytes.now in
    let last = length bytes - 16 in
    let room : last + 16 ≤ length bytes = omega (arith, c.requires.long) in
    let before : AreAscii bytes last = λ k lt. c.requires.begins.each k (omega (arith, lt, c.requires.few, c.requires.long)) in
    nothing_ends bytes last c.runs_at-zero.result.0 c.runs_at-zero.result.1 room c.runs_at-zero.ensures.zero c.runs_at-zero.ensures.other before c.if-zero-lt-LANES.false (omega (arith, c.requires.long)) end
