-- The names of functions that compilers emit as Global, and that kernels require to be Static, as bytes of a string
-- section.
use Rattle.std.specs.Prelude.{◌==◌, ℕ, Bool, List, [], ◌∷◌, ◌++◌}
use Rattle.std.specs.List.{list_any, starts_with}
use Rattle.btf_rewrite_model.specs.Pass.{builtins}

-- the bytes begin with such a name and its zero byte
abbrev pub begins_builtin : List ℕ → Bool
begins_builtin bytes = list_any (λ name. starts_with ◌==◌ bytes (name ++ 0 ∷ [])) builtins
