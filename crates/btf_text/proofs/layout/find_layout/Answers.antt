use Rattle.std.proofs.Common.{◌≡◌, ℕ, Result, Err, subst, sym, ap}
use Rattle.std.specs.Prelude.{IfSome, slice_get}
use Rattle.std.proofs.lemmas.Option.{slice_get_past}
use Rattle.btf_model.specs.Refusal.{Refusal}
use Rattle.btf_plain.specs.Error.{refusal_of}
use Rattle.btf_plain.specs.declared.error.BtfError.{BtfError}
use Rattle.btf_text.specs.Layout.{Means, composite}
use Rattle.btf_text.proofs.Searches.{refused_first, refused_second}
use Rattle.btf_text.proofs.layout.find_layout.Goals as goal

pub returns-in_err-type_id-clause-found : goal.returns-in_err-type_id-clause-found
returns-in_err-type_id-clause-found c =
    refused_first (Means c.args.table.now c.args.name.now) (λ id answer. answer ≡ composite id (slice_get c.args.table.now.records id))
    c.in_err-type_id.field-0.0 c.from_residual.result c.from_residual.ensures.1 c.in_err-type_id.ensures

pub returns-in_err-type_by_id-clause-found : goal.returns-in_err-type_by_id-clause-found
returns-in_err-type_by_id-clause-found c =
    let id : ℕ = c.in_ok-type_id.type_id in
    let Second : ℕ → Result ℕ Refusal → Type 0 = λ id answer. answer ≡ composite id (slice_get c.args.table.now.records id) in
    refused_second (Means c.args.table.now c.args.name.now) Second id c.in_err-type_by_id.field-0.0
    c.from_residual-in_err-type_by_id.result c.from_residual-in_err-type_by_id.ensures.1 c.in_ok-type_id.ensures
    (subst (λ (e : BtfError). IfSome (refusal_of e) (λ refusal. Second id (Err refusal))) (sym c.in_err-type_by_id.ensures.1)
    (ap (composite id) (sym (slice_get_past c.args.table.now.records id c.in_err-type_by_id.ensures.0))))
