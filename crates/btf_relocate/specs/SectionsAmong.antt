-- What the parts of `relocate_records` and `relocate_section_among` return.
use Rattle.std.specs.Prelude.{◌≡◌, ◌⊎◌, ℕ, if◌then◌else◌, List, Option, Some, None, Result, Err}
use Rattle.std.specs.BTreeMap.{BTreeMap, get}
use Rattle.std.specs.Ordering.{nat_cmp}
use Rattle.btf_model.specs.Table.{Table}
use Rattle.btf_relocate_model.specs.Modules as model
use Rattle.btf_relocate_model.specs.Modules.{KernelSetting, all_candidates, candidates_among, first_matched, left_after_section, reported_section, resolution_among, relocated_section_among}
use Rattle.btf_relocate_model.specs.Section.{patched_outcome, code_after, candidates_after, matched_by, patch_in, report_of}
use Rattle.btf_relocate_model.specs.declared.error.RelocationError.{RelocationError}
use Rattle.btf_relocate_model.specs.declared.error.RelocationError.TheVariants.{OutOfMemory}
use Rattle.btf_relocate_model.specs.declared.instruction.Patched.{Patched}
use Rattle.btf_relocate_model.specs.declared.report.Matched.{Matched}
use Rattle.btf_relocate_model.specs.declared.report.Report.{Report}
use Rattle.btf_relocate.specs.Modules.{candidates_view, targets_view}
use Rattle.btf_relocate.specs.declared.modules.Candidates.{Candidates}
use Rattle.btf_relocate.specs.declared.section.LeftCandidates.{LeftCandidates}
use Rattle.btf_relocate.specs.declared.section.CandidatePolicy.{CandidatePolicy}
use Rattle.btf_relocate.specs.declared.section.CandidatePolicy.TheVariants.{Shared, Fresh}
use Rattle.btf_relocate.specs.Sections.{is_shared}
use Rattle.btf_relocate.specs.declared.modules.Targets.{Targets}

-- the candidates in a map, and others if it has none
abbrev pub view_or : model.Candidates → Option Candidates → model.Candidates
view_or others (Some c) = candidates_view c
view_or others None = others

-- the candidates of each type, where records before have left these lists
abbrev pub left_among : CandidatePolicy → Table → model.Targets → BTreeMap ℕ Candidates → ℕ → model.Candidates
left_among Shared local ts m id = view_or (candidates_among local ts id) (get nat_cmp m id)
left_among Fresh local ts m id = candidates_among local ts id

-- a program's table, and the tables that it is relocated against
abbrev pub setting_among : Table → Targets → KernelSetting
setting_among local targets = record { local = local; targets = targets_view targets }

-- the candidates of each type that the records of a program have left
abbrev pub candidates_left : CandidatePolicy → Table → Targets → LeftCandidates → ℕ → model.Candidates
candidates_left policy local targets left = left_among policy local (targets_view targets) left.lists

-- what is done for the records of a section, and the code after them, where these candidates are left
abbrev pub reported_among : CandidatePolicy → Table → Targets → LeftCandidates → List ℕ → List (List ℕ)
    → List Report × List ℕ
reported_among policy local targets left code records =
    reported_section (setting_among local targets) (is_shared policy) (candidates_left policy local targets left)
    code records

-- the records of a section leave these candidates
abbrev pub LeavesAfter : CandidatePolicy → Table → Targets → LeftCandidates → LeftCandidates → List (List ℕ) → Type 0
LeavesAfter policy local targets old new records =
    candidates_left policy local targets new
    ≡ left_after_section (setting_among local targets) (is_shared policy) (candidates_left policy local targets old) records

-- no record has removed any
abbrev pub LeavesAll : LeftCandidates → Type 0
LeavesAll left =
    (policy : CandidatePolicy) (local : Table) (targets : Targets)
    → candidates_left policy local targets left ≡ all_candidates (setting_among local targets)

-- A record was resolved for candidates of which `after` remain, and its instruction patched; or an allocation failed.
abbrev pub PatchedAmong : Table → model.Targets → List ℕ → Candidates → Candidates → List ℕ → List ℕ
    → Result Patched RelocationError → Matched → Type 0
PatchedAmong local ts words before after old new outcome matched =
    (outcome ≡ Err OutOfMemory)
    ⊎ (let r = resolution_among local ts (candidates_view before) words in
    let p = patch_in local.order old words r in
    (candidates_view after ≡ candidates_after (candidates_view before) r) × (outcome ≡ patched_outcome p)
    × (matched ≡ matched_by first_matched r) × (new ≡ code_after old p))

-- The same, with the report of it.
abbrev pub ReportedAmong : Table → model.Targets → List ℕ → Candidates → Candidates → List ℕ → List ℕ → Report → Type 0
ReportedAmong local ts words before after old new report =
    (report.outcome ≡ Err OutOfMemory)
    ⊎ (let r = resolution_among local ts (candidates_view before) words in
    let p = patch_in local.order old words r in
    (candidates_view after ≡ candidates_after (candidates_view before) r)
    × (report ≡ report_of local.order old words (matched_by first_matched r) p) × (new ≡ code_after old p))

-- the outcomes of the records of a section, and its code after them
abbrev pub relocated_among : CandidatePolicy → Table → Targets → List ℕ → List (List ℕ)
    → List (Result Patched RelocationError) × List ℕ
relocated_among policy local targets code records =
    relocated_section_among local (targets_view targets) (is_shared policy) code records
