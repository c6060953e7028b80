use Rattle.std.proofs.Common.{sym, refl}
use Rattle.btf_model.specs.Refusal.{Refusal}
use Rattle.btf_model.proofs.Comparisons.{same_ok}
use Rattle.btf_rewrite_model.specs.Made.{record_at}
use Rattle.btf_object_model.specs.Kconfig.{with_record}
use Rattle.btf_object.proofs.PutBack.{section_set, section_put, one_more_put}
use Rattle.btf_object.proofs.finalize.externs.put_section.Goals as goal

pub loop-entry-init : goal.loop-entry-init
loop-entry-init c =
    section_set c.args.old.now c.args.btf.now c.args.type_id c.in-Some.section.now c.in-Some.ensures.some c.in_ok-try_clone.field-0 c.set_type.new.table
    (same_ok {E = Refusal} c.in_ok-try_clone.field-0 c.in-Some.section.now c.in_ok-try_clone.ensures)
    (c.if-not-is_still_section.ensures.some refl) c.set_type.ensures

pub loop-entry-preserved : goal.loop-entry-preserved
loop-entry-preserved c =
    one_more_put c.args.old.now (with_record c.args.btf.now c.args.type_id (record_at c.args.old.now c.args.type_id)) c.loop-entry.btf c.put_extern.new.btf c.entries-entry-items.result.now c.loop-entry.entry-index c.loop-entry-test.true c.loop-entry.invariant
    c.in_ok-put_extern.ensures.made

pub returns-clause-made : goal.returns-clause-made
returns-clause-made c =
    section_put c.args.old.now c.args.btf.now c.args.type_id c.in-Some.section.now c.in-Some.ensures.some c.entries-entry-items.result.now c.loop-entry.entry-index c.loop-entry.btf (sym c.if-not-is_still_section.ensures.value) c.entries-entry-items.ensures.words c.loop-entry-test.false
    c.loop-entry.invariant
