use Rattle.std.proofs.Common.{◌≡◌, ◌∙◌, subst, refl, inl, inr, map, Bool, List, ℕ, true, None}
use Rattle.btf_loader.specs.Results.{outcomes_of}
use Rattle.btf_loader.specs.declared.error.LoaderError.TheVariants.{OutOfMemory}
use Rattle.btf_loader_model.specs.Loader.{IsRelocated, Outcomes}
use Rattle.btf_loader_model.specs.Refused.{IsReason}
use Rattle.btf_model.specs.Table.{Table}
use Rattle.vbtf.specs.Relocate.{Counts, all_reports, refuses_records}
use Rattle.vbtf.specs.Status.{Fills}
use Rattle.vbtf.proofs.Relocations.{refuse_is}
use Rattle.vbtf.proofs.relocate.relocate.Goals as goal

pub returns-in_default-clause-relocated : goal.returns-in_default-clause-relocated
returns-in_default-clause-relocated c = λ small. inr (refl, refl, (OutOfMemory, tt, c.report_reason.ensures))

pub returns-in-Ok-relocate_object_with-clause-relocated :
    goal.returns-in-Ok-relocate_object_with-clause-relocated
returns-in-Ok-relocate_object_with-clause-relocated c = λ small.
    let file : List ℕ = c.in-Ok-relocate_object_with.file.items in
    let outcomes : List (ℕ × Outcomes) = map outcomes_of c.in-Ok-relocate_object_with.outcomes.items in
    let table : c.in-Ok.target ≡ c.args.opened.now.btf = c.in-Ok.ensures.indexed in
    let relocated = subst (λ (p : Table × Bool). IsRelocated c.args.object.now p.0 p.1 outcomes file) (λ i. (table i, c.policy-policy.ensures i)) c.in-Ok-relocate_object_with.ensures.relocated in
    let accepted = subst (λ (p : Table × Bool × Bool). IsReason c.args.object.now p.0 p.1 p.2 None) (λ i. (table i, c.policy-policy.ensures i, c.refusals-refusals.ensures i)) c.in-Ok-relocate_object_with.ensures.accepted in
    let none = λ (refuses : refuses_records c.args.options ≡ true). c.in-Ok-relocate_object_with.ensures.refused (refuse_is c.refusals-refusals.result (c.refusals-refusals.ensures ∙ refuses)) in
    let counts = subst (λ sections. Counts c.of.result (all_reports (map outcomes_of sections))) c.deref.ensures.value c.of.ensures in
    let fills = subst (λ bytes. Fills bytes c.args.out.now c.fill.new.out c.fill.new.needed c.fill.result) c.deref-in-Ok-relocate_object_with.ensures.value c.fill.ensures in
    inl ((file, outcomes, relocated, none, c.in-Ok-relocate_object_with.ensures.length, counts, fills), accepted)
