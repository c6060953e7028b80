-- The results of functions that test first.
use Rattle.std.specs.Prelude.{Option, Some, None, Result, Ok, Err}
use Rattle.btf_model.specs.Refusal.{Refusal}

-- the value if there is no refusal, else the refusal
abbrev pub checked : {X : Type 0} → Option Refusal → X → Result X Refusal
checked None x = Ok x
checked (Some refusal) x = Err refusal
