-- What the steps of the loader return, in the definitions' terms.
use Rattle.std.specs.Prelude.{◌≡◌, ℕ, option_map, Bool, true, false, List, Option, Some, map}
use Rattle.btf_model.specs.Table.{Table}
use Rattle.btf_relocate_model.specs.Modules.{Candidates, KernelSetting, Targets, left_after_section}
use Rattle.btf_relocate_model.specs.declared.report.Report.{Report}
use Rattle.btf_loader_model.specs.Loader.{Outcomes, left_at, relocated_file, relocated_at, section_at, IsRelocatedAmong}
use Rattle.btf_relocate.specs.Modules.{targets_view}
use Rattle.btf_loader.specs.declared.step.Loader.{Loader}
use Rattle.btf_loader.specs.declared.step.Refusals.{Refusals}
use Rattle.btf_loader.specs.declared.step.Refusals.TheVariants.{Refuse, Keep}
use Rattle.btf_loader.specs.declared.step.SectionOutcomes.{SectionOutcomes}
use Rattle.btf_relocate.specs.Sections.{is_shared}
use Rattle.btf_relocate.specs.SectionsAmong.{candidates_left}
use Rattle.btf_relocate.specs.declared.section.LeftCandidates.{LeftCandidates}
use Rattle.btf_elf_model.specs.declared.section_header.SectionHeader.{SectionHeader}
use Rattle.btf_loader_model.specs.Refused.{Reason, records_reason, sections_reason}
use Rattle.btf_relocate.specs.declared.section.CandidatePolicy.{CandidatePolicy}
use Rattle.btf_relocate.specs.declared.modules.Targets as code

-- the outcomes of a section of records, with the string offset of its name
abbrev pub outcomes_of : SectionOutcomes → ℕ × Outcomes
outcomes_of s = (s.name_offset, option_map (λ v. v.items) s.outcomes)

-- whether a record with an error refuses the object
abbrev pub refuses_errors : Refusals → Bool
refuses_errors Refuse = true
refuses_errors Keep = false

-- a program's table, and the tables that it is relocated against
abbrev pub kernel_setting : Table → Targets → KernelSetting
kernel_setting local targets = record { local = local; targets = targets }

-- those of a loader
abbrev pub loader_setting : Loader → KernelSetting
loader_setting loader = kernel_setting loader.local.now (targets_view loader.targets.now)

-- what a loader makes of a file and its sections of records: their outcomes, and the new file
abbrev pub file_relocated : Loader → List ℕ → List (ℕ × List (List ℕ)) → List (ℕ × Outcomes) × List ℕ
file_relocated loader file sections =
    relocated_file (loader_setting loader) (is_shared loader.policy) loader.object.now file sections

-- why it does not relocate them, if it does not
abbrev pub file_reason : Loader → List ℕ → List (ℕ × List (List ℕ)) → Option Reason
file_reason loader file sections =
    sections_reason (loader_setting loader) (is_shared loader.policy) (refuses_errors loader.refusals)
    loader.object.now file sections

-- the candidates of each type that its sections so far have left
abbrev pub left_in : Loader → LeftCandidates → ℕ → Candidates
left_in loader left = candidates_left loader.policy loader.local.now loader.targets.now left

-- what it makes of a file and one section of records, by the string offset of its name
abbrev pub section_relocated : Loader → (ℕ → Candidates) → List ℕ → ℕ × List (List ℕ) → Outcomes × List ℕ
section_relocated loader left file section =
    relocated_at (loader_setting loader) (is_shared loader.policy) left
    (section_at (loader_setting loader) loader.object.now section.0) file section.1

-- the same, where its sections so far have left these candidates
abbrev pub IsSectionRelocated : Loader → LeftCandidates → List ℕ → ℕ × List (List ℕ) → Outcomes → List ℕ → Type 0
IsSectionRelocated loader left file section outcomes new =
    (outcomes, new) ≡ section_relocated loader (left_in loader left) file section

-- the candidates that the section leaves
abbrev pub left_by : Loader → (ℕ → Candidates) → ℕ × List (List ℕ) → ℕ → Candidates
left_by loader left section =
    left_at (loader_setting loader) (is_shared loader.policy) left
    (section_at (loader_setting loader) loader.object.now section.0) section.1

-- why it does not relocate that, if it does not
abbrev pub loader_section_reason : Loader → (ℕ → Candidates) → List ℕ → ℕ × List (List ℕ) → Option Reason
loader_section_reason loader left file section =
    records_reason (loader_setting loader) (is_shared loader.policy) (refuses_errors loader.refusals)
    loader.object.now left file section

-- what it makes of a file and the records of a section of the object
abbrev pub code_relocated : Loader → (ℕ → Candidates) → List ℕ → SectionHeader → List (List ℕ) → Outcomes × List ℕ
code_relocated loader left file section records =
    relocated_at (loader_setting loader) (is_shared loader.policy) left (Some section) file records

-- the same, where its sections so far have left these candidates
abbrev pub IsCodeRelocated : Loader → LeftCandidates → List ℕ → SectionHeader → List (List ℕ) → List Report → List ℕ
    → Type 0
IsCodeRelocated loader left file section records reports new =
    (Some reports, new) ≡ code_relocated loader (left_in loader left) file section records

-- the candidates that these records leave
abbrev pub left_by_code : Loader → (ℕ → Candidates) → List (List ℕ) → ℕ → Candidates
left_by_code loader left records =
    left_after_section (loader_setting loader) (is_shared loader.policy) left records

-- The bytes are an object with a table, and these are the outcomes of its records for a kernel with modules, and the
-- file with its code relocated.
abbrev pub HasRelocated : List ℕ → code.Targets → CandidatePolicy → List SectionOutcomes → List ℕ → Type 0
HasRelocated bytes targets policy outcomes file =
    IsRelocatedAmong bytes (targets_view targets) (is_shared policy) (map outcomes_of outcomes) file
