use Rattle.std.proofs.Common.{◌≡◌, ℕ, ◌+◌, List, [], ◌∷◌, ◌++◌, drop, map, false, None, option_map, refl, sym, ap, ◌∙◌, rules, arith}
use Rattle.std.proofs.lemmas.Grind.{common_steps}
use Rattle.std.specs.List.{list_any}
use Rattle.btf_ext.specs.Relocation.{relocation}
use Rattle.btf_relocate_model.specs.Modules.{Candidates}
use Rattle.btf_relocate.specs.Modules.{targets_view}
use Rattle.btf_relocate.specs.Sections.{is_shared}
use Rattle.btf_loader_model.specs.Loader.{Outcomes, any_error, is_unreadable}
use Rattle.btf_loader_model.specs.Refused.{reason_from, records_reason}
use Rattle.btf_loader.specs.Results.{kernel_setting, left_in, outcomes_of, refuses_errors}
use Rattle.btf_loader.specs.declared.step.Refusals.TheVariants.{Refuse}
use Rattle.btf_loader.specs.declared.step.SectionOutcomes.{SectionOutcomes}
use Rattle.btf_loader.proofs.Steps.{begins, continues, no_reason}
use Rattle.btf_loader.proofs.step.Loader.relocate.Goals as goal

pub loop-index-init : goal.loop-index-init
loop-index-init c =
    let g = kernel_setting c.args.self.now.local.now (targets_view c.args.self.now.targets.now) in
    let every = c.new-left.ensures c.args.self.now.policy c.args.self.now.local.now c.args.self.now.targets.now in
    let no_errors : c.args.self.now.refusals ≡ Refuse → any_error (map outcomes_of c.in_ok-all.all.items) ≡ false = search rules in
    let unread : list_any (is_unreadable c.args.self.now.local.now.strings) (map relocation c.args.relocations.now) ≡ list_any (is_unreadable c.args.self.now.local.now.strings) (map relocation c.args.relocations.now) = search rules in (
      begins g (is_shared c.args.self.now.policy) c.args.self.now.object.now c.args.file.now c.args.relocations.now c.in_ok-all.all.items (left_in c.args.self.now c.new-left.result) c.in_ok-all.ensures.items every,
      no_errors,
      unread,
      ap (λ (l : ℕ → Candidates). reason_from g (is_shared c.args.self.now.policy) (refuses_errors c.args.self.now.refusals) c.args.self.now.object.now l c.args.file.now (map relocation c.args.relocations.now)) (sym every),
    )

pub loop-index-preserved : goal.loop-index-preserved
loop-index-preserved c =
    let g = kernel_setting c.args.self.now.local.now (targets_view c.args.self.now.targets.now) in
    let left : ℕ → Candidates = left_in c.args.self.now c.loop-index.left in
    let later : ℕ → Candidates = left_in c.args.self.now c.relocate_section.new.left in
    let s = c.relocation_at-section.result.now in
    let done : SectionOutcomes = record { name_offset = s.0; outcomes = c.in_ok-outcomes.outcomes } in
    let rest = drop c.loop-index.index c.args.relocations.now in
    let others = drop (c.loop-index.index + 1) c.args.relocations.now in
    let none : records_reason g (is_shared c.args.self.now.policy) (refuses_errors c.args.self.now.refusals) c.args.self.now.object.now left c.loop-index.file (relocation s) ≡ None = search rules in
    let no_errors : c.args.self.now.refusals ≡ Refuse → any_error (map outcomes_of c.push.new.all.items) ≡ false = grind (arith, common_steps) in
    let unread : list_any (is_unreadable c.args.self.now.local.now.strings) (map relocation c.args.relocations.now) ≡ list_any (is_unreadable c.args.self.now.local.now.strings) (map relocation others) = search rules in (
      continues g (is_shared c.args.self.now.policy) c.args.self.now.object.now c.args.file.now c.args.relocations.now c.loop-index.all.items c.push.new.all.items left later c.loop-index.file c.relocate_section.new.file rest others s done
          c.loop-index.invariant.0 c.relocation_at-section.ensures c.in_ok-push.ensures refl c.in_ok-outcomes.ensures.relocated c.in_ok-outcomes.ensures.left,
      no_errors,
      unread,
      c.loop-index.invariant.3
          ∙ no_reason g (is_shared c.args.self.now.policy) c.args.self.now.object.now (refuses_errors c.args.self.now.refusals) left later c.loop-index.file c.relocate_section.new.file rest others s (outcomes_of done).1
          c.relocation_at-section.ensures none c.in_ok-outcomes.ensures.relocated c.in_ok-outcomes.ensures.left,
    )
