use Rattle.std.proofs.Common.{◌≡◌, ◌∙◌, ap, subst, rules}
use Rattle.std.specs.Prelude.{Result}
use Rattle.btf_view.specs.TypeRef.{record_in}
use Rattle.btf_relocate_model.specs.Comparison as model
use Rattle.btf_relocate_model.specs.declared.error.RelocationError.{RelocationError}
use Rattle.btf_relocate.specs.Gives.{GivesBy}
use Rattle.btf_relocate.specs.Steps.{by_kinds, step_view}
use Rattle.btf_relocate.proofs.types.steps.exact_step.Goals as goal
use Rattle.btf_relocate.proofs.types.steps.exact_step.Goals.{in_default-via-in-Some+in_default, in_default-via-in_default}

pub returns-in_default : goal.returns-in_default
returns-in_default c =
    let one = record_in c.args.one.now in
    let other = record_in c.args.other.now in
    let few : Result model.Step RelocationError = model.few_members (by_kinds (model.matches_by c.args.is_pointee) one other) in
    let is : few ≡ model.exact_step c.args.local.now c.args.target.now c.args.is_pointee one other = elim c.in_default.branch [
      | in_default-via-in-Some+in_default w ↦ search rules
      | in_default-via-in_default w ↦ search rules
    ] in
    subst (λ (x : Result model.Step RelocationError). GivesBy step_view x c.few_members.result) (ap model.few_members c.matches_step.ensures ∙ is) c.few_members.ensures
