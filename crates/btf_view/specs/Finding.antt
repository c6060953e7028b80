-- The result of looking up a kind and a name.
use Rattle.std.specs.Borrow.{Bor}
use Rattle.std.specs.Str.Lossy.{replacement_bytes}
use Rattle.std.specs.Prelude.{◌≡◌, ◌≢◌, ◌++◌, ℕ, Bool, List, [], ◌∷◌, Option, Some, None, Ok, Err}
use Rattle.btf_model.specs.Record.{Kind, Record}
use Rattle.btf_model.specs.Refusal.{InvalidStringOffset, UnknownBtfTypeName}
use Rattle.btf_model.specs.Text.{FindsName, text_at}
use Rattle.btf_table.specs.BtfStr.{HasName}
use Rattle.btf_view.specs.declared.finding.Lookup.{Lookup}
use Rattle.btf_view.specs.declared.finding.Lookup.TheVariants.{Found, Missing, Unreadable}

-- the text of a piece of bytes: valid UTF-8, and U+FFFD if bytes that are not UTF-8 follow it
abbrev pub chunk_text : List ℕ → List ℕ → List ℕ
chunk_text valid [] = valid
chunk_text valid (byte ∷ invalid) = valid ++ replacement_bytes

-- The bytes begin with a text, and the result is what follows it; or None if they do not.
abbrev pub CutsText : List ℕ → List ℕ → Option (Bor (List ℕ)) → Type 0
CutsText bytes text (Some after) = bytes ≡ text ++ after.now
CutsText bytes text None = (more : List ℕ) → bytes ≢ text ++ more

-- The result is whether the text at an offset is this name, or None if no text can be read there.
abbrev pub ComparesName : List ℕ → ℕ → List ℕ → Option Bool → Type 0
ComparesName strings offset name (Some same) = HasName strings offset name (Ok same)
ComparesName strings offset name None = text_at strings offset ≡ Err (InvalidStringOffset offset)

-- The result is that of the search.
abbrev pub LooksUp : List ℕ → List Record → Kind → List ℕ → Lookup → Type 0
LooksUp strings records k name (Found id) = FindsName strings records k name (Ok id)
LooksUp strings records k name Missing = FindsName strings records k name (Err (UnknownBtfTypeName name))
LooksUp strings records k name (Unreadable offset) = FindsName strings records k name (Err (InvalidStringOffset offset))
