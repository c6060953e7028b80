-- The description of a kernel by C, and the features that a rewrite asked about.
use Rattle.std.specs.Prelude.{◌≡◌, ℕ, ◌==◌, ◌⊎◌, List, map, take, length, Option, Some, None, Result, Ok, Err, if◌then◌else◌}
use Rattle.std.specs.List.{AllByRecursion}
use Rattle.btf_model.specs.Refusal.{Refusal}
use Rattle.btf_model.specs.Table.{Table}
use Rattle.btf_rewrite_model.specs.Feature.{feature_number}
use Rattle.btf_rewrite_model.specs.FeatureSet.{has_bit}
use Rattle.btf_rewrite_model.specs.declared.feature.FeatureAnswer.{FeatureAnswer}
use Rattle.btf_rewrite_model.specs.declared.feature.FillPolicy.{FillPolicy}
use Rattle.btf_rewrite_model.specs.declared.feature.FillPolicy.TheVariants.{KeepSized, FillSized}
use Rattle.btf_rewrite_model.specs.declared.ksyms_ids.KsymsIds.{KsymsIds}
use Rattle.btf_rewrite_model.specs.Pass.{Layout}
use Rattle.btf_table.specs.KsymsStep.{ksyms_ids}
use Rattle.btf_table.specs.PassStep.{BeginsAsked}
use Rattle.btf_table.specs.Rewrites.{Rewrite, Rewrites, NeedsAreGranted, pass_for}
use Rattle.vbtf.specs.declared.kernel.Kernel.{Kernel}
use Rattle.vbtf.specs.declared.kernel.Asked.{Asked}
use Rattle.vbtf.specs.declared.fault.Fault.{Fault}
use Rattle.vbtf.specs.declared.handle.Handle.{Handle}
use Rattle.vbtf.specs.Status.{Fails, no_memory}
use Rattle.vbtf.specs.Program.{AreReadableEntries, layout_named, AreReadable}
use Rattle.vbtf.specs.declared.program.Named.{Named}

-- the policy for DATASECs that have a size and no entries
abbrev pub policy_chosen : Kernel → FillPolicy
policy_chosen kernel = if kernel.fill_sized == 0 then KeepSized else FillSized

-- an id, or None if it is 0
abbrev pub id_or_none : ℕ → Option ℕ
id_or_none id = if id == 0 then None else Some id

-- the ids of `.ksyms`, if there is one
abbrev pub ids_chosen : Kernel → Option KsymsIds
ids_chosen kernel = if kernel.ksyms == 0 then None else Some (ksyms_ids kernel.ksyms (id_or_none kernel.placeholder))

-- each answer is the kernel's bit
abbrev pub AreAnswersOf : ℕ → List FeatureAnswer → Type 0
AreAnswersOf features answers = AllByRecursion (λ answer. answer.granted ≡ has_bit features answer.feature) answers

-- 1 if the feature of the answer is granted, and otherwise 0
abbrev pub granted_number : FeatureAnswer → ℕ
granted_number answer = if answer.granted then 1 else 0

-- The reported features are those of the answers, in order.
pub record ListsAnswers (asked : Asked) (answers : List FeatureAnswer) : Type 0 where
  pub count : asked.count ≡ length answers
  pub features : take asked.count asked.features ≡ map (λ answer. feature_number answer.feature) answers
  pub granted : take asked.count asked.granted ≡ map granted_number answers

-- The outcomes of the rewrite of a table for a kernel with these features: the answers that it got, or an error.
abbrev pub RewritesForKernel : ℕ → Rewrite → Table → Table → Result (List FeatureAnswer) Refusal → Type 0
RewritesForKernel features w old new (Ok listed) =
    AreAnswersOf features listed × Rewrites {X = List FeatureAnswer} w old listed new (Ok listed)
RewritesForKernel features w old new (Err refusal) =
    (answers : List FeatureAnswer) × AreAnswersOf features answers
    × Rewrites {X = List FeatureAnswer} w old answers new (Err refusal)

-- the rewrite that a C program asks for
abbrev pub rewrite_chosen : Kernel → Layout → Rewrite
rewrite_chosen kernel layout =
    record { policy = policy_chosen kernel; ksyms = ids_chosen kernel; layout = layout }

-- The outcomes of the rewrite of a table that a C program asks for, for a program of this layout.
abbrev pub RewritesChosen : Kernel → Layout → Table → Table → Result (List FeatureAnswer) Refusal → Type 0
RewritesChosen kernel layout old new = RewritesForKernel kernel.features (rewrite_chosen kernel layout) old new

-- The reported features are the first ones that the rewrite of a table asks for, each with whether the kernel has it.
abbrev pub ReportsAsked : Kernel → Layout → Table → Asked → Type 0
ReportsAsked kernel layout old asked =
    (listed : List FeatureAnswer) × ListsAnswers asked listed × AreAnswersOf kernel.features listed
    × BeginsAsked (pass_for (rewrite_chosen kernel layout) old listed)

-- The kernel has each feature that it needs for the new table; each was asked for once, and is reported as granted.
abbrev pub ReportsGranted : Kernel → Table → Table → Asked → Type 0
ReportsGranted kernel old new asked =
    (listed : List FeatureAnswer) × ListsAnswers asked listed
    × NeedsAreGranted (policy_chosen kernel) (ids_chosen kernel) listed old new

-- The outcomes of a rewrite for C: status 0, and the handle owns the rewritten table; or an error or a failed
-- allocation, and the handle owns the unchanged table, whose index may be closed.
abbrev pub EndsRewriting : ℕ → Kernel → Layout → Handle → Handle → Asked → Fault → Type 0
EndsRewriting status kernel layout old new asked fault =
    (new.state ≡ 1) × (new.opened.ext ≡ old.opened.ext)
    × (((status ≡ 0) × (new.opened.index ≡ None) × (listed : List FeatureAnswer) × ListsAnswers asked listed
    × RewritesForKernel kernel.features (rewrite_chosen kernel layout) old.opened.btf new.opened.btf (Ok listed))
    ⊎ ((new.opened.btf ≡ old.opened.btf)
    × ((new.opened.index ≡ None) ⊎ (new.opened.index ≡ old.opened.index)) × Fails status fault
    (RewritesForKernel kernel.features (rewrite_chosen kernel layout) old.opened.btf new.opened.btf)))

-- For a table that the handle owns, and names that can be read, the call ends with the table rewritten for the
-- kernel.
abbrev pub RewritesNamed : Handle → Handle → List ℕ → List Named → List ℕ → List Named → Kernel → Asked →
    Fault → ℕ → Type 0
RewritesNamed old_table new_table section_names sections symbol_names symbols kernel asked fault result =
    old_table.state ≡ 1 → AreReadableEntries section_names sections → AreReadableEntries symbol_names symbols
    → EndsRewriting result kernel (layout_named section_names sections symbol_names symbols) old_table
    new_table asked fault

-- For a table that the handle owns, and a name that can't be read, the call ends with status 102, or an allocation
-- failed before; the handle is unchanged.
abbrev pub RefusesUnreadable : Handle → Handle → List ℕ → List Named → List ℕ → List Named → ℕ → Type 0
RefusesUnreadable old_table new_table section_names sections symbol_names symbols result =
    old_table.state ≡ 1 → ¬ (AreReadable section_names sections symbol_names symbols)
    → ((result ≡ 102) ⊎ (result ≡ no_memory)) × (new_table ≡ old_table)
