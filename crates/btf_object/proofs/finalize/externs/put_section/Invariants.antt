use Rattle.btf_rewrite_model.specs.Made.{record_at}
use Rattle.btf_object_model.specs.Kconfig.{with_record}
use Rattle.btf_object.proofs.PutBack.{ArePutBefore}
use Rattle.btf_object.proofs.finalize.externs.put_section.Given as goal

abbrev pub invariant-loop-entry : goal.invariant-loop-entry
invariant-loop-entry l = ArePutBefore l.old (with_record l.fn.btf l.type_id (record_at l.old l.type_id)) l.entry-items l.entry-index l.btf
