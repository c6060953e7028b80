-- A type whose alignment is computed, and where the computation stops.
use Rattle.std.specs.Prelude.{◌≡◌, ℕ, ◌≤◌, List, length, take, Option, Some, None, Result, Ok, Err}
use Rattle.btf_model.specs.Record.{Record}
use Rattle.btf_layout_model.specs.Alignment.{AlignedMember, Composed, shape_in, InPlace, Needs}
use Rattle.btf_layout.specs.declared.frame.Frame.{Frame}
use Rattle.btf_layout.specs.declared.frame.Step.{Step}
use Rattle.btf_layout.specs.declared.frame.Step.TheVariants as steps
use Rattle.btf_layout.specs.declared.progress.Outcome.{Outcome}
use Rattle.btf_layout.specs.declared.progress.Outcome.TheVariants.{Aligned, Endless}
use Rattle.btf_layout.specs.declared.progress.Progress.{Progress}
use Rattle.btf_layout.specs.declared.progress.Progress.TheVariants.{New, Known}
use Rattle.btf_layout.specs.Progress.{IsOutcome, IsKnown, progress_in}

-- The members before the next one are in their places, and `largest` is the largest of their alignments.
abbrev pub IsMemberFrame : List Record → Frame → Type 0
IsMemberFrame records frame =
    (size : ℕ) (members : List AlignedMember) → shape_in records frame.id ≡ Composed size members
    → (frame.member ≤ length members) × InPlace records (take frame.member members) frame.largest

-- the step to a type, by its progress
abbrev pub step_by_progress : ℕ → Progress → Step
step_by_progress type (Known outcome) = steps.Ends outcome
step_by_progress type progress = steps.Needs type

-- the alignment of a type, by its progress, or the step to the type
abbrev pub alignment_by : ℕ → Progress → Result ℕ Step
alignment_by type (Known (Aligned alignment)) = Ok alignment
alignment_by type progress = Err (step_by_progress type progress)

-- what a step of the type of an id says
abbrev pub MemberStepIs : List Record → List Progress → ℕ → Step → Type 0
MemberStepIs records known id (steps.Ends outcome) = IsOutcome records id outcome
MemberStepIs records known id (steps.Needs type) = Needs records id type × ¬ (IsKnown (progress_in known type))

-- the type that is started
abbrev pub started_by : ℕ → Progress → Option ℕ
started_by type New = Some type
started_by type progress = None

abbrev pub started : List Progress → Step → Option ℕ
started known (steps.Needs type) = started_by type (progress_in known type)
started known (steps.Ends outcome) = None

-- the outcome of a type that starts no other type
abbrev pub step_outcome : Step → Outcome
step_outcome (steps.Ends outcome) = outcome
step_outcome (steps.Needs type) = Endless
