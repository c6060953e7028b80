use Rattle.std.proofs.Common.{◌≡◌, ℕ, List, ◌∙◌, sym, ap, subst, map, arith}
use Rattle.std.proofs.lemmas.List.{take_at}
use Rattle.btf_ext.specs.BtfExt.{ext}
use Rattle.btf_ext.specs.Relocation.{relocation}
use Rattle.btf_relocate.specs.Modules.{targets_view}
use Rattle.btf_relocate.specs.Sections.{is_shared}
use Rattle.btf_loader_model.specs.Refused.{IsReasonAmong, sections_reason}
use Rattle.btf_loader.specs.Errors.{of_table, IsReport, IsLoaderCause}
use Rattle.btf_loader.specs.Results.{outcomes_of, refuses_errors, kernel_setting}
use Rattle.btf_loader.proofs.Causes.{becomes, has_table, are_sections, table_cause, ext_cause, section_cause, accepted}
use Rattle.btf_loader.proofs.Objects.{is_relocated}
use Rattle.btf_loader.proofs.loader.relocate_object_among.Goals as goal

pub returns-clause-relocated : goal.returns-clause-relocated
returns-clause-relocated g c =
    is_relocated c.args.bytes.now (targets_view c.args.targets.now) (is_shared c.args.policy) c.in_ok-object.object c.header.result.now c.in-Some.table.now c.in-Some-section_named.data.now c.in_ok-local.local (ext c.in-Ok.ext)
    (map relocation c.relocations.result.now) (map outcomes_of c.in_ok-outcomes.outcomes.items) c.deref_mut.result.now c.relocate.new.file _
    c.in_ok-object.ensures c.header.ensures c.in-Some.ensures c.in_ok-local.ensures.parsed c.in-Some-section_named.ensures c.in-Ok.ensures.ext c.relocations.ensures
    (c.deref_mut.ensures.value ∙ c.in_ok-file.ensures.items)
    (take_at c.relocate.new.file _ c.in_ok-file.file.len (omega arith))
    c.in_ok-outcomes.ensures.readable c.in_ok-outcomes.ensures.relocated

pub returns-in_err-local-clause-cause : goal.returns-in_err-local-clause-cause
returns-in_err-local-clause-cause g c =
    becomes _ (of_table c.in_err-local.field-0.0) c.from_residual-in_err-local.result
    (table_cause c.args.bytes.now (targets_view c.args.targets.now) (is_shared c.args.policy) (refuses_errors c.args.refusals) c.in_ok-object.object c.header.result.now c.in-Some.table.now c.in_err-local.field-0.0
    c.in_ok-object.ensures c.header.ensures c.in-Some.ensures c.in_err-local.ensures.parsed)
    c.from_residual-in_err-local.ensures.1

pub returns-in-Err-clause-cause : goal.returns-in-Err-clause-cause
returns-in-Err-clause-cause g c =
    subst (IsLoaderCause (IsReasonAmong c.args.bytes.now (targets_view c.args.targets.now) (is_shared c.args.policy) (refuses_errors c.args.refusals))) (sym c.ext_error.ensures)
    (ext_cause c.args.bytes.now (targets_view c.args.targets.now) (is_shared c.args.policy) (refuses_errors c.args.refusals) c.in_ok-object.object c.header.result.now c.in_ok-local.local c.in-Some-section_named.data.now c.in-Err.error
    (has_table c.args.bytes.now c.in_ok-object.object c.header.result.now c.in-Some.table.now c.in_ok-local.local c.in_ok-object.ensures c.header.ensures c.in-Some.ensures c.in_ok-local.ensures.parsed)
    c.header.ensures c.in-Some-section_named.ensures c.in-Err.ensures.ext)

pub returns-in_err-outcomes-clause-cause : goal.returns-in_err-outcomes-clause-cause
returns-in_err-outcomes-clause-cause g c =
    let sections = map relocation c.relocations.result.now in
    let start : c.deref_mut.result.now ≡ c.args.bytes.now = c.deref_mut.ensures.value ∙ c.in_ok-file.ensures.items in
    becomes _ c.in_err-outcomes.field-0.0 c.from_residual-in_err-outcomes.result
    (section_cause c.args.bytes.now (targets_view c.args.targets.now) (is_shared c.args.policy) (refuses_errors c.args.refusals) c.in_ok-object.object c.in_ok-local.local sections
    (has_table c.args.bytes.now c.in_ok-object.object c.header.result.now c.in-Some.table.now c.in_ok-local.local c.in_ok-object.ensures c.header.ensures c.in-Some.ensures c.in_ok-local.ensures.parsed)
    (are_sections c.in_ok-object.object c.header.result.now c.in-Some-section_named.data.now c.in_ok-local.local (ext c.in-Ok.ext) sections c.header.ensures c.in-Some-section_named.ensures c.in-Ok.ensures.ext c.relocations.ensures)
    c.in_err-outcomes.field-0.0
    (subst (λ (b : List ℕ). IsReport (sections_reason (kernel_setting c.in_ok-local.local (targets_view c.args.targets.now)) (is_shared c.args.policy) (refuses_errors c.args.refusals) c.in_ok-object.object b sections) c.in_err-outcomes.field-0.0) start c.in_err-outcomes.ensures.reports))
    c.from_residual-in_err-outcomes.ensures.1

pub returns-clause-accepted : goal.returns-clause-accepted
returns-clause-accepted g c =
    let sections = map relocation c.relocations.result.now in
    let start : c.deref_mut.result.now ≡ c.args.bytes.now = c.deref_mut.ensures.value ∙ c.in_ok-file.ensures.items in
    accepted c.args.bytes.now (targets_view c.args.targets.now) (is_shared c.args.policy) (refuses_errors c.args.refusals) c.in_ok-object.object c.in_ok-local.local sections
    (has_table c.args.bytes.now c.in_ok-object.object c.header.result.now c.in-Some.table.now c.in_ok-local.local c.in_ok-object.ensures c.header.ensures c.in-Some.ensures c.in_ok-local.ensures.parsed)
    (are_sections c.in_ok-object.object c.header.result.now c.in-Some-section_named.data.now c.in_ok-local.local (ext c.in-Ok.ext) sections c.header.ensures c.in-Some-section_named.ensures c.in-Ok.ensures.ext c.relocations.ensures)
    (ap (λ (b : List ℕ). sections_reason (kernel_setting c.in_ok-local.local (targets_view c.args.targets.now)) (is_shared c.args.policy) (refuses_errors c.args.refusals) c.in_ok-object.object b sections) (sym start) ∙ c.in_ok-outcomes.ensures.reports)
