-- What the functions that read a record into a slot return.
use Rattle.std.specs.Prelude.{◌≡◌, ◌⊎◌, ℕ, ◌+◌, ◌*◌, length, Result, Ok, Err, None, IfSome}
use Rattle.btf_model.specs.Record.{Record}
use Rattle.btf_model.specs.Refusal.{Refusal}
use Rattle.btf_plain.specs.declared.error.BtfError.{BtfError}
use Rattle.btf_plain.specs.Error.{refusal_of}
use Rattle.btf_records.specs.BtfType.{record_of, fallback_of}
use Rattle.btf_records.specs.declared.btf_type.BtfType.{BtfType}

-- the slot is unchanged, or an allocation failed and no record was put there
abbrev pub StaysOr : {P : Type 0} → (P → P → Type 0) → P → P → Type 0
StaysOr HasKept old new = (new ≡ old) ⊎ HasKept old new

-- a record that meets Reads and has no fallback is put in the slot, and its length in bytes is returned; or no record
-- is put there, and an allocation failed or the refusal meets Reads
abbrev pub Puts : {P : Type 0} → (P → BtfType → P → Type 0) → (P → P → Type 0) → P → P → (Result Record Refusal → Type 0) → Result ℕ BtfError → Type 0
Puts HasPut Stays old new Reads (Ok size) =
    (t : BtfType) × HasPut old t new × Reads (Ok (record_of t)) × (fallback_of t ≡ None)
    × (size ≡ 12 + 4 * length (record_of t).tail)
Puts HasPut Stays old new Reads (Err e) = Stays old new × IfSome (refusal_of e) (λ refusal. Reads (Err refusal))
