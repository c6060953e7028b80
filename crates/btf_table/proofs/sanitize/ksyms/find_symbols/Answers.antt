use Rattle.std.proofs.Common.{refl}
use Rattle.std.proofs.lemmas.Option.{IfSome_then}
use Rattle.btf_rewrite_model.specs.Made.{section_entries}
use Rattle.btf_table.specs.KsymsStep.{model_entry, FindsSymbols}
use Rattle.btf_table.proofs.Checks.{checked_err, checked_ok}
use Rattle.btf_table.proofs.KsymsEntries.{at, fault_found, passes_up_to, symbols_up_to, found_symbols}
use Rattle.btf_plain.proofs.Refused.{handed_on}
use Rattle.btf_table.proofs.sanitize.ksyms.find_symbols.Goals as goal

pub returns-in_err-prototype : goal.returns-in_err-prototype
returns-in_err-prototype c =
    let es : _ = c.entries-entry-items.result.now in
    handed_on (λ s. s) c.in_err-prototype.field-0.0 c.from_residual.result (FindsSymbols c.args.btf.now c.args.placeholder_id (section_entries c.args.data_sec.now.tail)) c.from_residual.ensures.1
    (IfSome_then _ (c.in_err-prototype.ensures (model_entry (at es c.loop-entry.entry-index)) refl)
    (λ refusal is. fault_found c.args.btf.now c.args.placeholder_id c.args.data_sec.now.tail es c.loop-entry.entry-index refusal c.entries-entry-items.ensures.words c.loop-entry-test.true c.loop-entry.invariant.0 (checked_err _ _ refusal is)))

pub loop-entry-preserved : goal.loop-entry-preserved
loop-entry-preserved c =
    let es : _ = c.entries-entry-items.result.now in
    let is : _ = c.in_ok-prototype.ensures (model_entry (at es c.loop-entry.entry-index)) refl in (
      passes_up_to c.args.btf.now c.args.placeholder_id es c.loop-entry.entry-index c.loop-entry-test.true c.loop-entry.invariant.0 (checked_ok _ _ _ is).0,
      symbols_up_to c.args.btf.now es c.loop-entry.entry-index c.loop-entry.symbols _ c.in_ok-prototype.prototype c.loop-entry-test.true c.loop-entry.invariant.1 (checked_ok _ _ _ is).1 c.in_ok-add.ensures.ids c.in_ok-add.ensures.prototypes,
    )

pub returns : goal.returns
returns c = found_symbols c.args.btf.now c.args.placeholder_id c.args.data_sec.now.tail c.entries-entry-items.result.now c.loop-entry.entry-index c.loop-entry.symbols c.entries-entry-items.ensures.words c.loop-entry-test.false c.loop-entry.invariant
