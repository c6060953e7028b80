-- The result of a call that allocates: the expected one, or an allocation failed.
use Rattle.std.specs.Prelude.{◌≡◌, ◌⊎◌, Result, Ok, Err, MatchResult}
use Rattle.btf_relocate_model.specs.declared.error.RelocationError.{RelocationError}
use Rattle.btf_relocate_model.specs.declared.error.RelocationError.TheVariants.{OutOfMemory}

-- what is returned, seen as a value of the definitions
abbrev pub GivesBy : {A B : Type 0} → (A → B) → Result B RelocationError → Result A RelocationError → Type 0
GivesBy view expected (Ok x) = expected ≡ Ok (view x)
GivesBy view expected (Err e) = (e ≡ OutOfMemory) ⊎ (expected ≡ Err e)

-- the same of a call that allocates nothing
abbrev pub IsBy : {A B : Type 0} → (A → B) → Result B RelocationError → Result A RelocationError → Type 0
IsBy view expected result = MatchResult result (λ x. expected ≡ Ok (view x)) (λ e. expected ≡ Err e)

abbrev pub Gives : {A : Type 0} → Result A RelocationError → Result A RelocationError → Type 0
Gives expected (Ok x) = expected ≡ Ok x
Gives expected (Err e) = (e ≡ OutOfMemory) ⊎ (expected ≡ Err e)
