-- The whole rewrite: the table that it makes for a kernel with these answers, or why it is refused. Source: aya-obj's
-- `fixup_and_sanitize`. This project's profile leaves the table unchanged if the rewrite is refused, and reads names
-- and ids in the table as the pass began (docs/DIFFERENCES.md).
use Rattle.std.specs.Prelude.{◌≡◌, ◌⊎◌, ℕ, ◌<◌, List, [], ◌∷◌, ◌++◌, length, map, Option, Some, None}
use Rattle.std.specs.List.{flat_map}
use Rattle.btf_model.specs.Refusal.{Refusal}
use Rattle.btf_model.specs.Table.{Table, no_fallbacks}
use Rattle.btf_rewrite_model.specs.declared.feature.FeatureAnswer.{FeatureAnswer}
use Rattle.btf_rewrite_model.specs.declared.feature.FillPolicy.{FillPolicy}
use Rattle.btf_rewrite_model.specs.Ksyms.{ksyms_table, ksyms_fault}
use Rattle.btf_rewrite_model.specs.declared.ksyms_ids.KsymsIds.{KsymsIds}
use Rattle.btf_rewrite_model.specs.Pass.{Pass, Layout, texts_below, added_below}
use Rattle.btf_rewrite_model.specs.Made.{table_ids}
use Rattle.btf_rewrite_model.specs.Rule.{ruled_below, falls_back}
use Rattle.btf_rewrite_model.specs.Fault.{fault}

-- the table as the pass begins: after the step of `.ksyms`, if the ids of `.ksyms` are given
abbrev pub begun : Table → Option KsymsIds → Table
begun t (Some ids) = ksyms_table t ids
begun t None = t

-- why the step of `.ksyms` is refused, if it is
abbrev pub step_fault : Table → Option KsymsIds → Option Refusal
step_fault t (Some ids) = ksyms_fault t ids
step_fault t None = None

-- the pass of a rewrite under a policy: over the table after the step
abbrev pub pass_of : FillPolicy → Table → Option KsymsIds → Layout → List FeatureAnswer → Pass
pass_of policy t ids layout answers =
    record { table = begun t ids; layout = layout; policy = policy; answers = answers }

-- the number of ids that a pass visits
abbrev pub old_count : Pass → ℕ
old_count p = length p.table.records

-- each text with its zero byte
abbrev pub with_zero_byte : List ℕ → List ℕ
with_zero_byte text = text ++ 0 ∷ []

-- The table that a pass makes: each id has the record and the fallback that its rule gives, and strings and records are
-- appended.
abbrev pub rewritten : Pass → Table
rewritten p = record p.table {
  strings = p.table.strings ++ flat_map with_zero_byte (texts_below p (old_count p));
  records = ruled_below p (old_count p) ++ added_below p (old_count p);
  fallbacks = map (falls_back p) (table_ids p.table) ++ no_fallbacks (added_below p (old_count p));
}

-- no id below this one is refused
abbrev pub AreRuled : Pass → ℕ → Type 0
AreRuled p end = (id : ℕ) → id < end → fault p id ≡ None

-- The rewrite of the old table under this policy succeeds, and makes the new table.
pub record Rewritten (policy : FillPolicy) (old : Table) (ids : Option KsymsIds) (layout : Layout)
    (answers : List FeatureAnswer) (new : Table) : Type 0 where
  pub step : step_fault old ids ≡ None
  pub ruled : AreRuled (pass_of policy old ids layout answers) (old_count (pass_of policy old ids layout answers))
  pub table : new ≡ rewritten (pass_of policy old ids layout answers)

-- The pass is refused at this id, which is the least id that has a fault.
abbrev pub FaultsAt : Pass → ℕ → Refusal → Type 0
FaultsAt p id refusal = (id < old_count p) × AreRuled p id × (fault p id ≡ Some refusal)

-- The rewrite is refused: in the step of `.ksyms`, or else in the pass.
abbrev pub IsRefused : FillPolicy → Table → Option KsymsIds → Layout → List FeatureAnswer → Refusal → Type 0
IsRefused policy old ids layout answers refusal =
    (step_fault old ids ≡ Some refusal)
    ⊎ ((step_fault old ids ≡ None) × ((id : ℕ) × FaultsAt (pass_of policy old ids layout answers) id refusal))
