use Rattle.btf_object.proofs.PutBack.{one_more_section}
use Rattle.btf_object.proofs.finalize.externs.put_externs.Goals as goal

pub loop-type_id-preserved : goal.loop-type_id-preserved
loop-type_id-preserved c = one_more_section c.args.old.now c.args.btf.now c.loop-type_id.btf c.put_section.new.btf c.loop-type_id.type_id c.loop-type_id.invariant c.in_ok-put_section.ensures.made
