-- Values of a type, one after another.
use Rattle.std.specs.Prelude.{ℕ, Result}
use Rattle.btf_model.specs.Table.{Table}
use Rattle.btf_relocate_model.specs.Field.{placed_value}
use Rattle.btf_relocate_model.specs.Types.{◌>>=◌, resolved}
use Rattle.btf_relocate_model.specs.declared.error.RelocationError.{RelocationError}
use Rattle.btf_relocate_model.specs.declared.field.Field.{Field}

-- the value at an index of values of the type that an id resolves to, which begin at a bit
abbrev pub resolved_placed : ℕ → Table → ℕ → ℕ → ℕ → Result Field RelocationError
resolved_placed pointer t id bit index = resolved t id >>= λ end. placed_value pointer t end bit index
