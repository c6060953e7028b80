use Rattle.std.proofs.Common.{length, ap, sym, ◌∙◌, Result, Err, arith}
use Rattle.std.specs.Prelude.{◌≡◌, ℕ, Option}
use Rattle.std.proofs.lemmas.List.{length-map}
use Rattle.btf_model.specs.Refusal.{Refusal}
use Rattle.btf_model.specs.Table.{Table, type_bytes, type_place}
use Rattle.btf_plain.proofs.Refused.{handed_on, known_refusal}
use Rattle.btf_records.specs.BtfType.{record_of, type_kind}
use Rattle.btf_rewrite_model.specs.Checks.{fits}
use Rattle.btf_table.specs.Checked.{checked}
use Rattle.btf_table.proofs.Checks.{checked_err}
use Rattle.btf_table.proofs.Tables.{few_types, consistent_push, place_checked, fitting, has_room}
use Rattle.btf_table.proofs.table.Btf.add_type.Goals as goal

pub overflow_cast-id : goal.overflow_cast-id
overflow_cast-id c = omega (arith, c.len-id.ensures, few_types c.self.inside c.self.invariant, c.self.inside.types.ok.0)

pub invariant_of-self-2 : goal.invariant_of-self-2
invariant_of-self-2 c =
    consistent_push c.self.inside c.push.new.self c.args.btf_type c.type_info_size-size.result (type_kind c.args.btf_type) c.self.invariant c.type_info_size-size.ensures.kind c.in_ok-push.ensures.items c.type_info_size-size.ensures.len (fitting _ _ c.in_ok-record_fits.ensures)

pub returns-in_err-record_fits-clause-answer : goal.returns-in_err-record_fits-clause-answer
returns-in_err-record_fits-clause-answer c =
    let t = c.args.self.now in
    let r = record_of c.args.btf_type in
    let refused = c.in_err-record_fits.ensures in
    let used : c.self.inside.type_len ≡ length (type_bytes t) = c.self.invariant.types ∙ ap (λ (u : Table). length (type_bytes u)) c.self.view_is in
    handed_on (λ id. id) c.in_err-record_fits.field-0.0 c.from_residual.result (λ a. a ≡ type_place r t) c.from_residual.ensures.1
    (known_refusal c.in_err-record_fits.field-0.0 refused.0 (λ refusal. ◌≡◌ {A = Result ℕ Refusal} (Err refusal) (type_place r t)) refused.1
    (sym (place_checked t r c.type_info_size-size.result c.type_info_size-size.ensures.len
    ∙ ap (λ (n : ℕ). checked (fits n c.type_info_size-size.result) (length t.records)) (sym used)
    ∙ ap (λ (o : Option Refusal). checked o (length t.records)) (checked_err _ _ refused.0 refused.2))))

pub returns-clause-answer : goal.returns-clause-answer
returns-clause-answer c =
    has_room c.args.self.now (record_of c.args.btf_type) c.type_info_size-size.result c.len-id.result c.type_info_size-size.ensures.len
    (omega (arith, fitting _ _ c.in_ok-record_fits.ensures, c.self.invariant.types, ap (λ (t : Table). length (type_bytes t)) c.self.view_is))
    (c.len-id.ensures ∙ c.self.inside.types.ok.0 ∙ sym (length-map c.self.inside.types.items record_of) ∙ ap (λ (t : Table). length t.records) c.self.view_is)
