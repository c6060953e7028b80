-- The alignments of many types in one call, in the form that C reads.
use Rattle.std.specs.Prelude.{◌≡◌, ◌⊎◌, ℕ, List, Ok, Err}
use Rattle.btf_layout.specs.Alignments.{alignment_in}
use Rattle.btf_layout.specs.declared.alignments.Alignments.{Alignments}
use Rattle.btf_layout_model.specs.Alignment.{HasAlignment}
use Rattle.btf_model.specs.Record.{Record}
use Rattle.btf_model.specs.Refusal.{Refusal}
use Rattle.btf_view.specs.Many.{FillsIds}
use Rattle.vbtf.specs.Status.{ReportsNoMemory}
use Rattle.vbtf.specs.declared.fault.Fault.{Fault}

-- The alignment of a type in bytes, or 0 if it has none.
abbrev pub AlignmentOrNone : List Record → ℕ → ℕ → Type 0
AlignmentOrNone records id alignment =
    HasAlignment records id (Ok alignment)
    ⊎ ((alignment ≡ 0) × (refusal : Refusal) × HasAlignment records id (Err refusal))

-- these are the alignments of the types of this table
abbrev pub AreAlignments : List Record → Alignments → Type 0
AreAlignments records a = (id : ℕ) → HasAlignment records id (alignment_in a id)

-- the alignments of the ids
abbrev pub FillsAlignments : List Record → ℕ → List ℕ → List ℕ → ℕ → Type 0
FillsAlignments records = FillsIds (AlignmentOrNone records) records

-- The outcomes of a call that writes alignments: status 0, or a failed allocation, and the buffer is unchanged.
abbrev pub EndsAligning : ℕ → List Record → ℕ → List ℕ → List ℕ → ℕ → Fault → Type 0
EndsAligning status records first old new count fault =
    ((status ≡ 0) × FillsAlignments records first old new count) ⊎ (ReportsNoMemory status fault × (new ≡ old))
