-- The alignments of a table.
use Rattle.std.specs.Prelude.{ℕ, Result}
use Rattle.btf_model.specs.Refusal.{Refusal}
use Rattle.btf_layout.specs.Progress.{alignment_answer, progress_in}
use Rattle.btf_layout.specs.declared.alignments.Alignments.{Alignments}

-- the alignment of the type of an id, or why it has none
abbrev pub alignment_in : Alignments → ℕ → Result ℕ Refusal
alignment_in a id = alignment_answer id (progress_in a.known.items id)
