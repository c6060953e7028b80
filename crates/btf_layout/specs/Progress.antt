-- What is known of the alignments of types.
use Rattle.std.specs.Prelude.{◌≡◌, ℕ, List, length, slice_get, Option, Some, None, Result, Ok, Err}
use Rattle.btf_model.specs.Record.{Record}
use Rattle.btf_model.specs.Refusal.{Refusal, UnknownBtfType, UnexpectedBtfType, MaximumTypeDepthReached}
use Rattle.btf_layout_model.specs.Alignment.{Aligns, IsEndless}
use Rattle.btf_layout.specs.declared.progress.Outcome.{Outcome}
use Rattle.btf_layout.specs.declared.progress.Outcome.TheVariants.{Aligned, Unknown, Unexpected, Endless}
use Rattle.btf_layout.specs.declared.progress.Progress.{Progress}
use Rattle.btf_layout.specs.declared.progress.Progress.TheVariants.{Open, Known}

-- the progress of a type; the outcome of an id that has no type is known
abbrev pub progress_or : ℕ → Option Progress → Progress
progress_or id (Some progress) = progress
progress_or id None = Known (Unknown id)

abbrev pub progress_in : List Progress → ℕ → Progress
progress_in known id = progress_or id (slice_get known id)

-- what an outcome says of the type of an id
abbrev pub IsOutcome : List Record → ℕ → Outcome → Type 0
IsOutcome records id (Aligned alignment) = Aligns records id (Ok alignment)
IsOutcome records id (Unknown type) = Aligns records id (Err (UnknownBtfType type))
IsOutcome records id (Unexpected type) = Aligns records id (Err (UnexpectedBtfType type))
IsOutcome records id Endless = IsEndless records id

-- each known outcome is the outcome of its type
pub record KnowsOutcomes (records : List Record) (known : List Progress) : Type 0 where
  pub all : length known ≡ length records
  pub outcomes : (id : ℕ) (outcome : Outcome) → progress_in known id ≡ Known outcome → IsOutcome records id outcome

-- the outcome is known
abbrev pub IsKnown : Progress → Type 0
IsKnown (Known outcome) = Unit {0}
IsKnown progress = ⊥

-- no type is open
abbrev pub NoneOpen : List Progress → Type 0
NoneOpen known = (id : ℕ) → progress_in known id ≡ Open → ⊥

-- the answer of an outcome, for the id that was asked for
abbrev pub outcome_answer : ℕ → Outcome → Result ℕ Refusal
outcome_answer id (Aligned alignment) = Ok alignment
outcome_answer id (Unknown type) = Err (UnknownBtfType type)
outcome_answer id (Unexpected type) = Err (UnexpectedBtfType type)
outcome_answer id Endless = Err (MaximumTypeDepthReached id)

abbrev pub alignment_answer : ℕ → Progress → Result ℕ Refusal
alignment_answer id (Known outcome) = outcome_answer id outcome
alignment_answer id progress = Err (MaximumTypeDepthReached id)

-- a type whose outcome is known before has a known outcome after
abbrev pub StaysKnown : List Progress → List Progress → Type 0
StaysKnown before after = (id : ℕ) → IsKnown (progress_in before id) → IsKnown (progress_in after id)
