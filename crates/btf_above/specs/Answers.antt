-- How an answer is the only one.
use Rattle.std.specs.Prelude.{Result}
use Rattle.btf_model.specs.Refusal.{Refusal}
use Rattle.btf_plain.specs.declared.error.BtfError.{BtfError}
use Rattle.btf_plain.specs.Error.{IsOrNoMemory}

-- P holds of no other value and of no other error than the result's, or an allocation failed
abbrev pub IsOnly : {X Y : Type 0} → (X → Y) → Result X BtfError → (Result Y Refusal → Type 0) → Type 0
IsOnly view result P = (answer : _) → P answer → IsOrNoMemory view result answer
