use Rattle.std.proofs.Common.{◌≡◌, Some, Ok, ap, sym, ◌∙◌}
use Rattle.std.specs.Prelude.{slice_get}
use Rattle.btf_model.specs.Record.{Record, kind_of}
use Rattle.btf_model.specs.Record as kinds
use Rattle.btf_model.specs.Refusal.{Refusal}
use Rattle.btf_model.proofs.Comparisons.{same_ok}
use Rattle.btf_records.specs.BtfType.{record_of, type_kind}
use Rattle.btf_table.specs.KsymsStep.{step_record, laid_out_anew}
use Rattle.btf_table.proofs.KsymsSteps.{section_becomes}
use Rattle.btf_table.proofs.sanitize.ksyms.Step.new_type.Goals as goal

pub returns-in_ok-lay_out-in-DataSec-clause-words : goal.returns-in_ok-lay_out-in-DataSec-clause-words
returns-in_ok-lay_out-in-DataSec-clause-words c = λ ids step.
    let t : _ = c.args.btf.now in
    let r : Record = c.in-DataSec.data_sec in
    let is_r : record_of c.args.btf_type.now ≡ r = ap record_of c.in-DataSec.is in
    let kind : kind_of r.info ≡ Some kinds.DataSec = ap (λ (q : Record). kind_of q.info) (sym is_r) ∙ ap kind_of (sym c.info.ensures.value) ∙ c.info.ensures.kind ∙ ap (λ b. Some (type_kind b)) c.in-DataSec.is in
    let at : slice_get t.records c.args.id ≡ Some r = c.requires ∙ ap (λ (q : Record). Some q) is_r in
    ap (λ (q : Record). Ok q) (
    same_ok {E = Refusal} c.in_ok-lay_out-in-DataSec.field-0 (laid_out_anew t ids.placeholder_id r) (c.in_ok-lay_out-in-DataSec.ensures.words ids.placeholder_id step.target)
    ∙ sym (section_becomes t ids c.args.id r kind at (c.if-id-self.true ∙ step.datasec)) ∙ ap (step_record t ids c.args.id) (sym is_r)
    )
