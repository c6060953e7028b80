use Rattle.std.specs.Option.{unwrap_or}
use Rattle.std.proofs.Common.{◌≡◌, ℕ, ◌+◌, ◌*◌, ◌^◌, List, length, None, Some, Err, Option, refl, sym, ap, ◌∙◌, ◌∷◌, ◌++◌, []}
use Rattle.std.specs.Result.{result_ok}
use Rattle.std.specs.List.{flat_map}
use Rattle.std.proofs.lemmas.Option.{none-some, IfSome_then}
use Rattle.btf_model.specs.Record.{Record}
use Rattle.btf_rewrite_model.specs.Pass.{Pass}
use Rattle.btf_model.proofs.Comparisons.{same_ok}
use Rattle.btf_plain.specs.Error.{MeetsOrNoMemory}
use Rattle.btf_plain.specs.declared.error.BtfError.{BtfError}
use Rattle.btf_rewrite_model.specs.Made.{made_data_sec}
use Rattle.btf_plain.specs.Items.{code_entry_words}
use Rattle.btf_plain.specs.declared.items.DataSecEntry.{DataSecEntry}
use Rattle.btf_records.specs.declared.btf_type.BtfType.TheVariants.{DataSec}
use Rattle.btf_table.specs.PassStep.{pass_on, Rules}
use Rattle.btf_table.specs.SectionStep.{filler_section}
use Rattle.btf_table.proofs.Checks.{checked_ok, checked_err}
use Rattle.btf_plain.proofs.Refused.{handed_on, known_refusal}
use Rattle.btf_table.proofs.SectionRules.{filler_is, filler_fault, growth_fault, filled_ruled}
use Rattle.btf_table.proofs.sanitize.data_sec.fill.Goals as goal

pub returns-in_err-filler : goal.returns-in_err-filler
returns-in_err-filler c = λ given answers id r before n fills known.
    let p : Pass = pass_on c.args.btf.now given answers in
    elim c.args.made.now.filler as (λ (o : Option ℕ). c.args.made.now.filler ≡ o → MeetsOrNoMemory (λ new. unwrap_or new (DataSec r)) c.from_residual.result (Rules p id (DataSec r) before c.filler.new.self)) [
      | None ↦ λ none.
          handed_on (λ new. unwrap_or new (DataSec r)) c.in_err-filler.field-0.0 c.from_residual.result (Rules p id (DataSec r) before c.filler.new.self) c.from_residual.ensures.1
          (IfSome_then _ (c.in_err-filler.ensures.answer none) (λ refusal is. filler_fault p id r c.args.name_offset before c.args.made.now n fills c.args.size known refusal none (checked_err _ _ refusal is)))
      | Some k ↦ λ some. absurd (none-some k (sym (ap result_ok (sym (c.filler.ensures.there k some).0 ∙ c.in_err-filler.was))))
    ] refl

pub returns-in_err-record_fits : goal.returns-in_err-record_fits
returns-in_err-record_fits c = λ given answers id r before n fills known.
    let p : Pass = pass_on c.args.btf.now given answers in
    let number : ℕ = c.in_ok-filler.filler in
    let has = filler_is p id r c.args.name_offset before c.args.made.now n fills c.filler.new.self number
    (λ k some. (same_ok {E = BtfError} k number (sym (c.filler.ensures.there k some).0 ∙ c.in_ok-filler.was), (c.filler.ensures.there k some).1))
    c.in_ok-filler.ensures.answer c.in_ok-filler.ensures.adds c.in_ok-filler.ensures.made in
    let e : BtfError = c.in_err-record_fits.field-0.0 in
    let reported = c.in_err-record_fits.ensures in
    handed_on (λ new. unwrap_or new (DataSec r)) e c.from_residual-in_err-record_fits.result (Rules p id (DataSec r) before c.filler.new.self) c.from_residual-in_err-record_fits.ensures.1
    (known_refusal e reported.0 (λ refusal. Rules p id (DataSec r) before c.filler.new.self (Err refusal)) reported.1
    (growth_fault p id r c.args.name_offset before c.args.made.now n fills c.args.size known c.filler.new.self number has reported.0 (checked_err _ _ reported.0 reported.2)))

pub returns : goal.returns
returns c = λ given answers id r before n fills known.
    let p : Pass = pass_on c.args.btf.now given answers in
    let number : ℕ = c.in_ok-filler.filler in
    let has = filler_is p id r c.args.name_offset before c.args.made.now n fills c.filler.new.self number
    (λ k some. (same_ok {E = BtfError} k number (sym (c.filler.ensures.there k some).0 ∙ c.in_ok-filler.was), (c.filler.ensures.there k some).1))
    c.in_ok-filler.ensures.answer c.in_ok-filler.ensures.adds c.in_ok-filler.ensures.made in
    let fits_in = checked_ok _ _ _ c.in_ok-record_fits.ensures in
    let es = c.push.new.self in
    let size : ℕ = c.max-size.result in
    let items : es.items ≡ record { btf_type = number; offset = 0; size = size } ∷ [] = c.in_ok-push.ensures.items ∙ ap (λ xs. xs ++ record { btf_type = number; offset = 0; size = size } ∷ []) c.in_ok-entries.ensures.items in
    let made : ℕ → List DataSecEntry → Record = λ count xs. record { name = c.args.name_offset; info = 15 * 2 ^ 24 + count; third = size; tail = flat_map code_entry_words xs } in
    let is : c.new.result ≡ filler_section c.args.name_offset c.args.size number =
    c.new.ensures ∙ ap (λ (m : ℕ). made m es.items) (es.ok.0 ∙ ap length items) ∙ ap (made 1) items ∙ ap (λ (m : ℕ). made_data_sec c.args.name_offset m 1 (record { type = number; offset = 0; size = m } ∷ [])) c.max-size.ensures in
    filled_ruled p id r c.args.name_offset before c.args.made.now n fills c.args.size known c.filler.new.self number has (DataSec c.new.result) fits_in.0 is refl c.filler.ensures.names c.filler.ensures.member_type
