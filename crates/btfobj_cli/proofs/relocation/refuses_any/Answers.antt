use Rattle.std.proofs.Common.{◌∙◌, ℕ, sym}
use Rattle.clap.proofs.WalkLemmas.{list_any-map}
use Rattle.btf_loader_model.specs.Loader.{Outcomes, has_error}
use Rattle.btf_loader.specs.Results.{outcomes_of}
use Rattle.btfobj_cli.proofs.relocation.refuses_any.Goals as goal

pub returns-in-Refuse : goal.returns-in-Refuse
returns-in-Refuse c = λ none asked.
    sym (list_any-map (λ (s : ℕ × Outcomes). has_error s.1) outcomes_of c.args.sections.now) ∙ sym c.has_errors.ensures ∙ none
