use Rattle.std.proofs.Common.{◌≡◌, ◌∙◌, ℕ, Bool, true, false, List, map, ap}
use Rattle.std.specs.Prelude.{if◌then◌else◌}
use Rattle.clap.proofs.WalkLemmas.{list_any-map}
use Rattle.btf_loader_model.specs.Loader.{Outcomes, any_error, has_error}
use Rattle.btf_loader.specs.Results.{outcomes_of}
use Rattle.btfobj_cli.specs.Relocation.{any_poison, has_poison}
use Rattle.btfobj_cli.specs.declared.relocation.Ending.{Ending}
use Rattle.btfobj_cli.specs.declared.relocation.Ending.TheVariants.{Written, Poisoned, Refused}
use Rattle.btfobj_cli.proofs.relocation.Ending.of.Goals as goal

-- the ending by whether there are errors and poisoned instructions
abbrev by : Bool → Bool → Ending
by errors poisons = if errors then Refused else (if poisons then Poisoned else Written)

pub returns-then-has_errors : goal.returns-then-has_errors
returns-then-has_errors c =
    let sections : List (ℕ × Outcomes) = map outcomes_of c.args.sections.now in
    let errors : true ≡ any_error sections = c.if-has_errors.ensures ∙ list_any-map (λ (s : ℕ × Outcomes). has_error s.1) outcomes_of c.args.sections.now in
    ap (λ (b : Bool). by b (any_poison sections)) errors

pub returns-then-has_poisons : goal.returns-then-has_poisons
returns-then-has_poisons c =
    let sections : List (ℕ × Outcomes) = map outcomes_of c.args.sections.now in
    let errors : false ≡ any_error sections = c.if-has_errors.ensures ∙ list_any-map (λ (s : ℕ × Outcomes). has_error s.1) outcomes_of c.args.sections.now in
    let poisons : true ≡ any_poison sections = c.if-has_poisons.ensures ∙ list_any-map (λ (s : ℕ × Outcomes). has_poison s.1) outcomes_of c.args.sections.now in
    ap (λ (b : Bool). by false b) poisons ∙ ap (λ (b : Bool). by b (any_poison sections)) errors

pub returns : goal.returns
returns c =
    let sections : List (ℕ × Outcomes) = map outcomes_of c.args.sections.now in
    let errors : false ≡ any_error sections = c.if-has_errors.ensures ∙ list_any-map (λ (s : ℕ × Outcomes). has_error s.1) outcomes_of c.args.sections.now in
    let poisons : false ≡ any_poison sections = c.if-has_poisons.ensures ∙ list_any-map (λ (s : ℕ × Outcomes). has_poison s.1) outcomes_of c.args.sections.now in
    ap (λ (b : Bool). by false b) poisons ∙ ap (λ (b : Bool). by b (any_poison sections)) errors
