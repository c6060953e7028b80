-- The outcomes of the sections that are left complete the outcomes so far; under `Refuse` none so far is an error; and
-- no name so far cannot be read; and no section so far is refused.
use Rattle.std.proofs.Common.{◌≡◌, drop, false, map}
use Rattle.std.specs.List.{list_any}
use Rattle.btf_ext.specs.Relocation.{relocation}
use Rattle.btf_relocate.specs.Modules.{targets_view}
use Rattle.btf_relocate.specs.Sections.{is_shared}
use Rattle.btf_relocate.specs.SectionsAmong.{candidates_left}
use Rattle.btf_loader_model.specs.Loader.{any_error, is_unreadable}
use Rattle.btf_loader_model.specs.Refused.{reason_from, sections_reason}
use Rattle.btf_loader.specs.Results.{outcomes_of, refuses_errors, kernel_setting}
use Rattle.btf_loader.specs.declared.step.Refusals.TheVariants.{Refuse}
use Rattle.btf_loader.proofs.Steps.{Continues}
use Rattle.btf_loader.proofs.step.Loader.relocate.Given as goal

abbrev pub invariant-loop-index : goal.invariant-loop-index
invariant-loop-index l =
    Continues (kernel_setting l.self.local.now (targets_view l.self.targets.now)) (is_shared l.self.policy) l.self.object.now l.fn.file l.relocations l.all.items
    (candidates_left l.self.policy l.self.local.now l.self.targets.now l.left) l.file (drop l.index l.relocations)
    × (l.self.refusals ≡ Refuse → any_error (map outcomes_of l.all.items) ≡ false)
    × (list_any (is_unreadable l.self.local.now.strings) (map relocation l.relocations) ≡ list_any (is_unreadable l.self.local.now.strings) (map relocation (drop l.index l.relocations)))
    × (sections_reason (kernel_setting l.self.local.now (targets_view l.self.targets.now)) (is_shared l.self.policy) (refuses_errors l.self.refusals) l.self.object.now l.fn.file (map relocation l.relocations)
    ≡ reason_from (kernel_setting l.self.local.now (targets_view l.self.targets.now)) (is_shared l.self.policy) (refuses_errors l.self.refusals) l.self.object.now
    (candidates_left l.self.policy l.self.local.now l.self.targets.now l.left) l.file (map relocation (drop l.index l.relocations)))
