use Rattle.std.proofs.Common.{◌≡◌, true, false, sym, ap, ◌∙◌}
use Rattle.std.specs.List.{list_any}
use Rattle.std.proofs.lemmas.List.{take_all}
use Rattle.std.proofs.lemmas.List.Folds.{list_any_at}
use Rattle.btf_rewrite_model.specs.Ksyms.{is_func}
use Rattle.btf_rewrite_model.specs.Made.{kind_at}
use Rattle.btf_plain.specs.declared.items.DataSecEntry.{DataSecEntry}
use Rattle.btf_table.proofs.KsymsEntries.{zero_entry}
use Rattle.btf_object_model.specs.Finalized as model
use Rattle.btf_object.proofs.FinalSections.{functions_are}
use Rattle.btf_object.proofs.finalize.placeholder.has_functions.Goals as goal

pub returns-then-is_function : goal.returns-then-is_function
returns-then-is_function c =
    let one : list_any (λ (e : DataSecEntry). is_func (kind_at c.args.btf.now e.btf_type)) c.entries-entry-items.result.now ≡ true =
    list_any_at (λ (e : DataSecEntry). is_func (kind_at c.args.btf.now e.btf_type)) c.entries-entry-items.result.now c.loop-entry.entry-index zero_entry c.loop-entry-test.true (sym c.is_function.ensures ∙ c.if-is_function.true) in
    sym one
    ∙ functions_are c.args.btf.now c.in-Some.ids c.in-Ok-DataSec.field-0.now c.in-Ok-DataSec.data_sec c.entries-entry-items.result.now c.in-Ok-DataSec.field-0-is c.in-Ok-DataSec.ensures.record_is c.entries-entry-items.ensures.words
    ∙ ap (model.has_functions c.args.btf.now) (sym c.in-Some.is)

pub returns : goal.returns
returns c =
    let none : list_any (λ (e : DataSecEntry). is_func (kind_at c.args.btf.now e.btf_type)) c.entries-entry-items.result.now ≡ false =
    ap (list_any (λ (e : DataSecEntry). is_func (kind_at c.args.btf.now e.btf_type))) (sym (take_all c.loop-entry.entry-index c.entries-entry-items.result.now c.loop-entry-test.false)) ∙ c.loop-entry.invariant in
    sym none
    ∙ functions_are c.args.btf.now c.in-Some.ids c.in-Ok-DataSec.field-0.now c.in-Ok-DataSec.data_sec c.entries-entry-items.result.now c.in-Ok-DataSec.field-0-is c.in-Ok-DataSec.ensures.record_is c.entries-entry-items.ensures.words
    ∙ ap (model.has_functions c.args.btf.now) (sym c.in-Some.is)
