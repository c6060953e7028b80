-- The causes of status 1.
use Rattle.std.specs.Prelude.{◌≡◌, ℕ, List, Option, None, IfSome}
use Rattle.std.specs.Io.KnownBytes.{Keeps}
use Rattle.btf_model.specs.Refusal.{Refusal}
use Rattle.btf_plain.specs.Error.{refusal_of}
use Rattle.btf_cli.specs.Answer.{IsAnswer, IsDeclined}
use Rattle.btf_cli.specs.declared.line.Line.{Line}
use Rattle.btf_cli.specs.declared.fault.Fault.{Fault}
use Rattle.btf_cli.specs.declared.fault.Fault.TheVariants.{Read, Write, Btf}

-- standard input or an allocation failed
abbrev pub IsReadingFault : Fault → Type 0
IsReadingFault Read = Unit {0}
IsReadingFault Write = ⊥
IsReadingFault (Btf error) = refusal_of error ≡ None

-- A command fails on this input by a fault. If standard input failed, the input represents no table, the command fails on
-- the table, or an allocation failed, then nothing is written. If standard output failed, the command has an output.
abbrev pub FailsBy : Fault → Option (List ℕ) → Option (List ℕ) → Option (List ℕ) → Line → Type 0
FailsBy Read input old new line = Keeps old new
FailsBy Write input old new line = IfSome input (λ bytes. (written : List ℕ) × IsAnswer line bytes written)
FailsBy (Btf error) input old new line =
    Keeps old new × IfSome input (λ bytes. IfSome (refusal_of error) (IsDeclined line bytes))

-- the same by some fault
abbrev pub HasFailed : Option (List ℕ) → Option (List ℕ) → Option (List ℕ) → Line → Type 0
HasFailed input old new line = (fault : Fault) × FailsBy fault input old new line
