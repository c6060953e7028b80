use Rattle.std.proofs.Common.{arith}
use Rattle.btf_object.proofs.PutBack.{none_more, none_at_all, one_there}
use Rattle.btf_object.proofs.finalize.externs.has_externs.Goals as goal

pub returns-then-is_externs_section : goal.returns-then-is_externs_section
returns-then-is_externs_section c = one_there c.args.btf.now c.loop-type_id.type_id (omega (arith, c.loop-type_id-test.true, c.type_count-type_id-end.ensures)) c.if-is_externs_section.ensures

pub loop-type_id-preserved : goal.loop-type_id-preserved
loop-type_id-preserved c = none_more c.args.btf.now c.loop-type_id.type_id (omega (arith, c.loop-type_id-test.true, c.type_count-type_id-end.ensures)) c.loop-type_id.invariant c.if-is_externs_section.ensures

pub returns : goal.returns
returns c = none_at_all c.args.btf.now c.loop-type_id.type_id (omega (arith, c.loop-type_id-test.false, c.type_count-type_id-end.ensures)) c.loop-type_id.invariant
