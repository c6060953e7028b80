use Rattle.std.proofs.Common.{refl}
use Rattle.btf_split.proofs.Hints.{left_at_first, left_none, left_found, left_on, left_done}
use Rattle.btf_split.proofs.hint.has_name_beyond.Goals as goal

pub loop-record-init : goal.loop-record-init
loop-record-init c = left_at_first c.args.endianness c.args.limit c.args.types.now

pub returns-in_default : goal.returns-in_default
returns-in_default c =
    (λ is. absurd cc, λ h. absurd (left_none c.args.endianness c.args.limit c.args.types.now c.loop-record.rest.now c.loop-record._record c.loop-record.invariant c.in_default.ensures h))

pub returns-then-name-limit : goal.returns-then-name-limit
returns-then-name-limit c =
    let found = left_found c.args.endianness c.args.limit c.args.types.now c.loop-record.rest.now c.loop-record._record c.in-Some.name c.in-Some.behind.now c.loop-record.invariant c.loop-record-test.true c.in-Some.ensures c.if-name-limit.true in
    (λ is. found, λ h. refl)

pub loop-record-preserved : goal.loop-record-preserved
loop-record-preserved c =
    left_on c.args.endianness c.args.limit c.args.types.now c.loop-record.rest.now c.loop-record._record c.in-Some.name c.in-Some.behind.now c.loop-record.invariant c.loop-record-test.true c.in-Some.ensures c.if-name-limit.false

pub returns : goal.returns
returns c = (λ is. absurd cc, λ h. absurd (left_done c.args.endianness c.args.limit c.args.types.now c.loop-record.rest.now c.loop-record._record c.loop-record.invariant c.loop-record-test.false h))
