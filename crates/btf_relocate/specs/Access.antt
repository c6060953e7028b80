-- The access of an access string.
use Rattle.std.specs.Prelude.{◌≡◌, ℕ, List, Option, Some, None, Result, Ok, Err}
use Rattle.btf_relocate_model.specs.declared.error.RelocationError.{RelocationError}
use Rattle.btf_relocate_model.specs.declared.error.RelocationError.TheVariants.{BadAccess}

-- The result for a text: its indices if there are any, else the error.
abbrev pub IsAccess : Option (List ℕ) → Result (List ℕ) RelocationError → Type 0
IsAccess expected (Ok indices) = expected ≡ Some indices
IsAccess expected (Err e) = (expected ≡ None) × (e ≡ BadAccess)
