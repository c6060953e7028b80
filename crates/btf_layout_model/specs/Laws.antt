-- The laws of alignments. Each is the contract of a public function of this crate.
use Rattle.std.specs.Prelude.{◌≡◌, ℕ, ◌%◌, ◌<◌, ◌≤◌, List, ◌++◌, Result, Ok}
use Rattle.btf_model.specs.Record.{Record}
use Rattle.btf_model.specs.Refusal.{Refusal}
use Rattle.btf_layout_model.specs.Alignment.{AlignedMember, Composed, shape_in, pointer_len, HasAlignment}

-- A type has at most one alignment, or one error, and never both.
abbrev pub AlignmentIsDetermined : Type 0
AlignmentIsDetermined =
    (records : List Record) (id : ℕ) (answer other : Result ℕ Refusal) → HasAlignment records id answer
    → HasAlignment records id other → answer ≡ other

-- An alignment is 1 to 8 bytes.
pub record AlignmentIsSmall : Type 0 where
  pub positive : (records : List Record) (id alignment : ℕ) → HasAlignment records id (Ok alignment) → 0 < alignment
  pub at_most : (records : List Record) (id alignment : ℕ) → HasAlignment records id (Ok alignment)
      → alignment ≤ pointer_len

-- The size of a STRUCT or UNION is a multiple of its alignment.
abbrev pub AlignmentDividesSize : Type 0
AlignmentDividesSize =
    (records : List Record) (id size alignment : ℕ) (members : List AlignedMember)
    → shape_in records id ≡ Composed size members → HasAlignment records id (Ok alignment)
    → size % alignment ≡ 0

-- A type that has an alignment has it also in a table with further types. So the types of a base have their alignments in
-- each split table over it.
abbrev pub AlignmentStays : Type 0
AlignmentStays =
    (base more : List Record) (id alignment : ℕ) → HasAlignment base id (Ok alignment)
    → HasAlignment (base ++ more) id (Ok alignment)
