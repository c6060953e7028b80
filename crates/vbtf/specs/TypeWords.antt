-- The first words of a type, in the form that C reads.
-- Source: the kernel's BTF documentation, "Type Encoding", `struct btf_type`.
use Rattle.std.specs.Prelude.{◌≡◌, ◌≤◌, ℕ, List, length, Some, Result, Ok, Err, slice_get}
use Rattle.btf_model.specs.Record.{Record}
use Rattle.btf_model.specs.Refusal.{Refusal, UnknownBtfType}
use Rattle.btf_view.specs.Forms.{words_in}
use Rattle.btf_view.specs.declared.forms.TypeWords.{TypeWords}

-- The words of the type of an id, or the error if there is none.
abbrev pub WordsOf : List Record → ℕ → Result TypeWords Refusal → Type 0
WordsOf records id (Ok words) = (r : Record) × (slice_get records id ≡ Some r) × (words ≡ words_in r)
WordsOf records id (Err refusal) = (length records ≤ id) × (refusal ≡ UnknownBtfType id)
