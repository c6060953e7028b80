use Rattle.std.proofs.Common.{ℕ, suc, ◌+◌, List, drop, map, sym, ap, ◌∙◌}
use Rattle.std.specs.Prelude.{slice_get}
use Rattle.btf_relocate_model.specs.Modules as model
use Rattle.btf_relocate.specs.Modules.{found_view}
use Rattle.btf_relocate.specs.declared.modules.InModule.{InModule}
use Rattle.btf_relocate.proofs.modules.first_in_modules.Goals as goal

pub returns-in-Some : goal.returns-in-Some
returns-in-Some c =
    let i = c.loop-index.index in
    let rest = model.first_in_modules (suc i) (map found_view (drop (i + 1) c.args.found.now)) in
    c.in_module.ensures rest
    ∙ ap (model.in_module_or rest i) (c.in-Some.ensures.value ∙ ap (λ (ids : List ℕ). slice_get ids 0) c.deref.ensures.value)
    ∙ ap (λ (xs : List InModule). model.first_in_modules i (map found_view xs)) (sym c.found_at.ensures)
    ∙ sym c.loop-index.invariant
