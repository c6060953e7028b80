-- The text of a `BtfStr`, and what the search for a name finds at one offset and at one type.
use Rattle.std.specs.Prelude.{◌≡◌, ◌≢◌, ℕ, List, Bool, true, false, Some, Result, Ok, Err, string_bytes}
use Rattle.btf_model.specs.Record.{Kind, Record, kind_of}
use Rattle.btf_model.specs.Refusal.{Refusal}
use Rattle.btf_model.specs.Text.{text_at, IsPassed}
use Rattle.btf_table.specs.declared.table.text.BtfStr.{BtfStr}
use Rattle.btf_table.specs.declared.table.text.BtfStr.TheVariants.{Borrowed, Owned}

-- the bytes of a text, borrowed or owned
abbrev pub text_bytes : BtfStr → List ℕ
text_bytes (Borrowed text) = text.now
text_bytes (Owned text) = string_bytes text

-- whether the text at an offset is this name, or the error if the text cannot be read
abbrev pub HasName : List ℕ → ℕ → List ℕ → Result Bool Refusal → Type 0
HasName strings offset name (Ok true) = text_at strings offset ≡ Ok name
HasName strings offset name (Ok false) = (other : List ℕ) × (text_at strings offset ≡ Ok other) × (other ≢ name)
HasName strings offset name (Err refusal) = text_at strings offset ≡ Err refusal

-- whether a record has this kind and this name, or why its name can't be read if it has the kind
abbrev pub IsNamed : List ℕ → Kind → List ℕ → Record → Result Bool Refusal → Type 0
IsNamed strings k name r (Ok true) = (kind_of r.info ≡ Some k) × (text_at strings r.name ≡ Ok name)
IsNamed strings k name r (Ok false) = IsPassed strings k name r
IsNamed strings k name r (Err refusal) = (kind_of r.info ≡ Some k) × (text_at strings r.name ≡ Err refusal)
