use Rattle.std.proofs.Common.{rules, ◌≡◌, ℕ, List, [], ◌∷◌, Result, Err, subst}
use Rattle.std.specs.Prelude.{IfSome}
use Rattle.std.specs.Option.{unwrap_or}
use Rattle.btf_model.specs.Refusal.{Refusal}
use Rattle.btf_model.specs.Text.{text_at}
use Rattle.btf_rewrite_model.specs.Checks.{Check, first_fault, name_is_read}
use Rattle.btf_rewrite_model.specs.Pass.{symbol_by_name}
use Rattle.btf_rewrite_model.specs.Rule.{placed}
use Rattle.btf_rewrite_model.specs.Fault.{entry_checks, is_placed}
use Rattle.btf_plain.specs.Error.{refusal_of}
use Rattle.btf_table.specs.Checked.{checked}
use Rattle.btf_table.specs.KsymsStep.{model_entry as entry_of}
use Rattle.btf_table.proofs.SectionRules.{reported_on}
use Rattle.btf_table.proofs.sanitize.data_sec.entries.place_entry.Goals as goal

pub returns-in_err-offset-clause-made : goal.returns-in_err-offset-clause-made
returns-in_err-offset-clause-made g c = λ p same symbols.
    let name : Result (List ℕ) Refusal = text_at c.args.btf.now.strings c.name_offset-name_offset.result in
    let left : List Check = name_is_read name ∷ is_placed (symbol_by_name p name) name ∷ [] in
    let number : ℕ = unwrap_or (symbol_by_name p name) 0 in
    let is : first_fault left ≡ first_fault (entry_checks p (entry_of c.args.entry.now)) = search rules in
    reported_on entry_of c.in_err-offset.field-0.0 c.from_residual-in_err-offset.result (first_fault (entry_checks p (entry_of c.args.entry.now))) number (placed p (entry_of c.args.entry.now)) c.from_residual-in_err-offset.ensures.1
    (subst (λ f. IfSome (refusal_of c.in_err-offset.field-0.0) (λ refusal. ◌≡◌ {A = Result ℕ Refusal} (Err refusal) (checked f number))) is (c.in_err-offset.ensures.answer p symbols))
