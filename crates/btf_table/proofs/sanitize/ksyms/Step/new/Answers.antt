use Rattle.std.proofs.Common.{◌≡◌, Some, Ok, refl, subst, ◌∙◌}
use Rattle.std.specs.List.{flat_map}
use Rattle.std.proofs.lemmas.Option.{IfSome_then}
use Rattle.btf_model.specs.Record.{Record}
use Rattle.btf_rewrite_model.specs.Made.{section_entries}
use Rattle.btf_rewrite_model.specs.Checks.{first_fault}
use Rattle.btf_rewrite_model.specs.Ksyms.{placeholder_checks, data_sec_checks, ksyms_entry_checks, ksyms_entries}
use Rattle.btf_table.specs.KsymsStep.{ksyms_ids, FindsSymbols, StepsWith}
use Rattle.btf_table.proofs.Checks.{checked_ok, checked_err, fault_second, fault_third}
use Rattle.btf_plain.proofs.Refused.{handed_on}
use Rattle.btf_table.proofs.sanitize.ksyms.Step.new.Goals as goal

pub returns-in_err-data_sec : goal.returns-in_err-data_sec
returns-in_err-data_sec c =
    let t : _ = c.args.btf.now in
    handed_on (λ s. s) c.in_err-data_sec.field-0.0 c.from_residual-in_err-data_sec.result (StepsWith t (ksyms_ids c.args.datasec_id c.args.placeholder_id)) c.from_residual-in_err-data_sec.ensures.1
    (IfSome_then _ c.in_err-data_sec.ensures (λ refusal is.
    fault_second (placeholder_checks t c.args.placeholder_id) (data_sec_checks t c.args.datasec_id) (flat_map (ksyms_entry_checks t c.args.placeholder_id) (ksyms_entries t (ksyms_ids c.args.datasec_id c.args.placeholder_id))) refusal
    (checked_ok _ _ _ c.in_ok-target.ensures).0 (checked_err _ _ refusal is)))

pub returns-in_err-symbols : goal.returns-in_err-symbols
returns-in_err-symbols c =
    let t : _ = c.args.btf.now in
    let section : _ = checked_ok _ _ _ c.in_ok-data_sec.ensures in
    handed_on (λ s. s) c.in_err-symbols.field-0.0 c.from_residual-in_err-symbols.result (StepsWith t (ksyms_ids c.args.datasec_id c.args.placeholder_id)) c.from_residual-in_err-symbols.ensures.1
    (IfSome_then _ c.in_err-symbols.ensures (λ refusal is.
    fault_third (placeholder_checks t c.args.placeholder_id) (data_sec_checks t c.args.datasec_id) (flat_map (ksyms_entry_checks t c.args.placeholder_id) (ksyms_entries t (ksyms_ids c.args.datasec_id c.args.placeholder_id)))
    (checked_ok _ _ _ c.in_ok-target.ensures).0 section.0
    ∙ subst (λ (r : Record). first_fault (flat_map (ksyms_entry_checks t c.args.placeholder_id) (section_entries r.tail)) ≡ Some refusal) section.1 is))

pub returns : goal.returns
returns c =
    let t : _ = c.args.btf.now in
    let section : _ = checked_ok _ _ _ c.in_ok-data_sec.ensures in
    let found : _ = subst (λ (r : Record). FindsSymbols t c.args.placeholder_id (section_entries r.tail) (Ok c.in_ok-symbols.symbols)) section.1 c.in_ok-symbols.ensures in (
      fault_third (placeholder_checks t c.args.placeholder_id) (data_sec_checks t c.args.datasec_id) (flat_map (ksyms_entry_checks t c.args.placeholder_id) (ksyms_entries t (ksyms_ids c.args.datasec_id c.args.placeholder_id)))
          (checked_ok _ _ _ c.in_ok-target.ensures).0 section.0
          ∙ found.0,
      record { target = (checked_ok _ _ _ c.in_ok-target.ensures).1; symbols = found.1; datasec = refl },
    )
