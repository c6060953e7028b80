-- A step of the comparison of fields, in terms of the model.
use Rattle.std.specs.Prelude.{ℕ, List, Result, Bool}
use Rattle.btf_model.specs.Walk.{Finding, Ends, GoesOn}
use Rattle.btf_model.specs.Fields.{Pair, FieldsFound, field_by}
use Rattle.btf_model.specs.Refusal.{Refusal}
use Rattle.btf_model.specs.Table.{Table}
use Rattle.btf_model.specs.Text.{text_at}
use Rattle.btf_plain.specs.Error.{MeetsOrNoMemory}
use Rattle.btf_compare.specs.declared.fields.FieldStep.{FieldStep}
use Rattle.btf_compare.specs.declared.fields.FieldStep.TheVariants as steps
use Rattle.btf_compare.specs.Pairs.{id_pair}
use Rattle.btf_records.specs.declared.btf_type.BtfType.{BtfType}
use Rattle.btf_records.specs.BtfType.{record_of, type_kind}

-- P holds of the step, or an allocation failed
abbrev pub FieldStepIs : FieldStep → (Finding Pair Bool → Type 0) → Type 0
FieldStepIs (steps.Ends answer) P = MeetsOrNoMemory (λ b. b) answer (λ a. P (Ends a))
FieldStepIs (steps.GoesOn local target) P = P (GoesOn (id_pair local target))

-- what the comparison of fields finds at two types that are no modifiers, by the id of the first
abbrev pub FieldTypesFind : Table → Table → ℕ → BtfType → BtfType → Finding Pair Bool → Type 0
FieldTypesFind local target id local_type target_type =
    FieldsFound local target id (type_kind local_type) (type_kind target_type) (record_of local_type)
    (record_of target_type)

-- the same at two types of compatible kinds, at least one of which is no composite
abbrev pub step_by_kinds : Table → Table → ℕ → BtfType → BtfType → Finding Pair Bool
step_by_kinds local target id local_type target_type =
    field_by local target id (type_kind local_type) (type_kind target_type) (record_of local_type)
    (record_of target_type)

-- the text of a type's name
abbrev pub type_text : Table → BtfType → Result (List ℕ) Refusal
type_text t btf_type = text_at t.strings (record_of btf_type).name
