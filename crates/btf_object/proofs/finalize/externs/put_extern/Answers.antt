use Rattle.std.proofs.Common.{sym}
use Rattle.btf_model.specs.Refusal.{Refusal}
use Rattle.btf_model.proofs.Comparisons.{same_ok}
use Rattle.btf_records.specs.BtfType.{record_of, fallback_of}
use Rattle.btf_object.proofs.PutBack.{extern_put}
use Rattle.btf_object.proofs.finalize.externs.put_extern.Goals as goal

pub returns-clause-made : goal.returns-clause-made
returns-clause-made c =
    extern_put c.args.old.now c.args.btf.now c.args.type_id c.in-Ok.before.now c.in-Ok-type_by_id.now.now c.in-Ok.ensures c.in-Ok-type_by_id.ensures c.in_ok-try_clone.field-0 c.set_type.new.table (sym c.if-not-is_still_extern.ensures)
    (same_ok {E = Refusal} (record_of c.in_ok-try_clone.field-0) (record_of c.in-Ok.before.now) c.in_ok-try_clone.ensures.record)
    (same_ok {E = Refusal} (fallback_of c.in_ok-try_clone.field-0) (fallback_of c.in-Ok.before.now) c.in_ok-try_clone.ensures.fallback)
    c.set_type.ensures
