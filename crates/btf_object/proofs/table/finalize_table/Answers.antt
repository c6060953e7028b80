use Rattle.std.proofs.Common.{◌≡◌, subst, sym, ap, ◌∙◌}
use Rattle.btf_model.specs.Blob.{IsTable, canon}
use Rattle.btf_model.specs.Refusal.{Refusal}
use Rattle.btf_model.specs.Table.{Table}
use Rattle.btf_model.proofs.Comparisons.{same_ok}
use Rattle.btf_elf_model.specs.declared.file_header.FileHeader.{FileHeader}
use Rattle.btf_table.specs.Layout.{layout_of}
use Rattle.btf_object_model.specs.Finalized.{with_ksyms_size, with_old_sizes}
use Rattle.btf_object_model.specs.Externs.{for_reader}
use Rattle.btf_object_model.specs.SanitizedFinalized.{written_table}
use Rattle.btf_object.specs.Kernel.{kernel_has}
use Rattle.btf_object.proofs.Rewrites.{refuses_ksyms, refuses_placeholder, refuses_rewrite, rewrites_finalized, passed_on}
use Rattle.btf_object.proofs.table.finalize_table.Given.{Over}
use Rattle.btf_object.proofs.table.finalize_table.Goals as goal
use Rattle.btf_object.proofs.table.finalize_table.Goals.{In_ok-btf}

-- the bytes represent the table, in the object's byte order
parsed : (g : Over) (c : In_ok-btf g) → IsTable c.args.object.now.header.order c.args.table.now c.in_ok-btf.btf
parsed g c = subst (λ (h : FileHeader). IsTable h.order c.args.table.now c.in_ok-btf.btf) c.header.ensures c.in_ok-btf.ensures.parsed

pub returns-in_err-ids-clause-refused : goal.returns-in_err-ids-clause-refused
returns-in_err-ids-clause-refused g c =
    let at = goal.at.returns-in_err-ids-clause-refused g c in
    passed_on _ _ c.in_err-ids.field-0.0 c.from_residual-in_err-ids.result
    (refuses_ksyms c.args.object.now c.args.table.now (kernel_has c.args.kernel.now) c.args.reader c.in_ok-btf.btf c.open.new.btf (layout_of c.in_ok-layout.layout.sections c.in_ok-layout.layout.symbols) c.in_ok-layout.ensures.layout (parsed g at.In_ok-btf)
    c.in_ok-open.ensures.made)
    c.in_err-ids.ensures c.from_residual-in_err-ids.ensures.1

pub returns-in_err-ids-2-clause-refused : goal.returns-in_err-ids-2-clause-refused
returns-in_err-ids-2-clause-refused g c =
    let at = goal.at.returns-in_err-ids-2-clause-refused g c in
    passed_on _ _ c.in_err-ids-2.field-0.0 c.from_residual-in_err-ids-2.result
    (refuses_placeholder c.args.object.now c.args.table.now (kernel_has c.args.kernel.now) c.args.reader c.in_ok-btf.btf c.open.new.btf (layout_of c.in_ok-layout.layout.sections c.in_ok-layout.layout.symbols) c.in_ok-layout.ensures.layout (parsed g at.In_ok-btf)
    c.in_ok-open.ensures.made c.in_ok-ids.ids c.in_ok-ids.ensures)
    c.in_err-ids-2.ensures.answer c.from_residual-in_err-ids-2.ensures.1

pub returns-in_err-answers-clause-refused : goal.returns-in_err-answers-clause-refused
returns-in_err-answers-clause-refused g c =
    let at = goal.at.returns-in_err-answers-clause-refused g c in
    passed_on _ _ c.in_err-answers.field-0.0 c.from_residual-in_err-answers.result
    (refuses_rewrite c.args.object.now c.args.table.now (kernel_has c.args.kernel.now) c.args.reader c.in_ok-btf.btf c.open.new.btf (layout_of c.in_ok-layout.layout.sections c.in_ok-layout.layout.symbols) c.in_ok-layout.ensures.layout (parsed g at.In_ok-btf)
    c.in_ok-open.ensures.made c.in_ok-ids.ids c.in_ok-ids.ensures c.begin.new.btf c.in_ok-ids-2.ids c.in_ok-ids-2.ensures.table c.in_ok-ids-2.ensures.answer)
    c.in_err-answers.ensures.refused c.from_residual-in_err-answers.ensures.1

pub returns-clause-made : goal.returns-clause-made
returns-clause-made g c =
    let at = goal.at.returns-clause-made g c in
    let base : Table = c.open.new.btf in
    let new : Table = c.rewrite_for.new.btf in
    let sized_is : c.set_sizes.new.btf ≡ with_old_sizes (with_ksyms_size base c.in_ok-ids.ids) new =
    c.in_ok-set_sizes.ensures.made (with_ksyms_size base c.in_ok-ids.ids) (c.deref.ensures.value ∙ c.in_ok-sizes.ensures) in
    let made : Table = c.give_to.new.btf in
    let given : made ≡ for_reader c.args.reader c.in_ok-btf.btf c.set_sizes.new.btf =
    c.in_ok-give_to.ensures.made c.in_ok-btf.btf (subst (λ (h : FileHeader). IsTable h.order c.args.table.now c.in_ok-btf.btf) (sym c.header-2.ensures) (parsed g at.In_ok-btf)) in
    let made_is : made ≡ written_table c.args.reader c.in_ok-btf.btf base c.in_ok-ids.ids new = given ∙ ap (for_reader c.args.reader c.in_ok-btf.btf) sized_is in
    let bytes_are : c.in_ok-to_bytes.field-0.items ≡ canon made = same_ok {E = Refusal} c.in_ok-to_bytes.field-0.items (canon made) c.in_ok-to_bytes.ensures.written in
    let all =
    rewrites_finalized c.args.object.now c.args.table.now (kernel_has c.args.kernel.now) c.args.reader c.in_ok-btf.btf base (layout_of c.in_ok-layout.layout.sections c.in_ok-layout.layout.symbols) c.in_ok-layout.ensures.layout (parsed g at.In_ok-btf) c.in_ok-open.ensures.made
    c.in_ok-ids.ids c.in_ok-ids.ensures c.begin.new.btf c.in_ok-ids-2.ids c.in_ok-ids-2.ensures.table c.in_ok-ids-2.ensures.answer new made c.in_ok-answers.answers.items c.in_ok-to_bytes.field-0.items c.in_ok-answers.ensures.rewritten
    c.in_ok-answers.ensures.answers c.in_ok-answers.ensures.order made_is bytes_are c.in_ok-to_bytes.ensures.parses_back in
    (c.in_ok-btf.btf, base, new, all.0, all.1)
