-- The code after a patch.
use Rattle.std.specs.Prelude.{◌≡◌, ℕ, List, Result, Ok, Err}
use Rattle.btf_relocate_model.specs.declared.error.RelocationError.{RelocationError}
use Rattle.btf_relocate_model.specs.declared.instruction.Patched.{Patched}

-- The result is the expected one. The code is the expected code after a patch, and unchanged after an error.
abbrev pub HasPatched : List ℕ → List ℕ → Result (Patched × List ℕ) RelocationError → Result Patched RelocationError
    → Type 0
HasPatched old new expected (Ok p) = expected ≡ Ok (p, new)
HasPatched old new expected (Err e) = (expected ≡ Err e) × (new ≡ old)
