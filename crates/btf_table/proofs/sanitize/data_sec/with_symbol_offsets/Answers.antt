use Rattle.std.proofs.Common.{◌≡◌, ℕ, ◌+◌, ◌*◌, ◌^◌, List, map, Option, Ok, sym, ap, ◌∙◌}
use Rattle.std.specs.List.{flat_map}
use Rattle.std.proofs.lemmas.List.Folds.{flat_map-map}
use Rattle.btf_model.specs.Record.{Record, vlen}
use Rattle.btf_model.specs.Refusal.{Refusal}
use Rattle.btf_rewrite_model.specs.Made as model
use Rattle.btf_rewrite_model.specs.Made.{Entry, section_entries, entry_words}
use Rattle.btf_rewrite_model.specs.Checks.{first_fault}
use Rattle.btf_rewrite_model.specs.Rule.{placed}
use Rattle.btf_rewrite_model.specs.Fault.{entry_checks}
use Rattle.std.specs.Option.{unwrap_or}
use Rattle.btf_records.specs.BtfType.{record_of}
use Rattle.btf_records.specs.declared.btf_type.BtfType.TheVariants.{DataSec}
use Rattle.btf_table.specs.Checked.{checked}
use Rattle.btf_table.specs.KsymsStep.{model_entry}
use Rattle.btf_table.proofs.Checks.{checked_ok}
use Rattle.btf_table.proofs.SectionRules.{reported_on}
use Rattle.btf_table.proofs.sanitize.data_sec.with_symbol_offsets.Goals as goal

pub returns-in_err-entries-clause-answer : goal.returns-in_err-entries-clause-answer
returns-in_err-entries-clause-answer g c = λ p same symbols.
    reported_on (λ new. record_of (unwrap_or new (DataSec c.args.data_sec.now))) c.in_err-entries.field-0.0 c.from_residual.result (first_fault (flat_map (entry_checks p) (section_entries c.args.data_sec.now.tail))) _
    (model.made_data_sec c.args.name_offset c.args.size (vlen c.args.data_sec.now.info) (map (placed p) (section_entries c.args.data_sec.now.tail))) c.from_residual.ensures.1
    (c.in_err-entries.ensures.answer p same symbols)

pub returns-clause-answer : goal.returns-clause-answer
returns-clause-answer g c = λ p same symbols.
    let ok = checked_ok _ _ _ (c.in_ok-entries.ensures.answer p same symbols) in
    let name : ℕ = c.args.name_offset in
    let size : ℕ = c.args.size in
    let es : List Entry = map (placed p) (section_entries c.args.data_sec.now.tail) in
    let is : c.new.result ≡ model.made_data_sec name size (vlen c.args.data_sec.now.info) es =
    c.new.ensures ∙ ap (λ (n : ℕ). record { name = name; info = 15 * 2 ^ 24 + n; third = size; tail = flat_map (λ e. entry_words (model_entry e)) c.in_ok-entries.entries.items }) (c.in_ok-entries.entries.ok.0 ∙ c.in_ok-entries.ensures.count)
    ∙ ap (λ (ws : List ℕ). record { name = name; info = 15 * 2 ^ 24 + vlen c.args.data_sec.now.info; third = size; tail = ws }) (sym (flat_map-map entry_words model_entry c.in_ok-entries.entries.items))
    ∙ ap (model.made_data_sec name size (vlen c.args.data_sec.now.info)) ok.1 in
    ap (λ (r : Record). Ok r) is ∙ sym (ap (λ (f : Option Refusal). checked f (model.made_data_sec name size (vlen c.args.data_sec.now.info) es)) ok.0)
