-- What one call writes for many ids, in the form that C reads.
use Rattle.std.specs.Prelude.{◌≡◌, ◌⊎◌, ◌<◌, ◌+◌, ◌-◌, ◌^◌, ℕ, min, List, length, drop, get_or, Ok, Err}
use Rattle.btf_model.specs.Record.{Record}
use Rattle.btf_model.specs.Refusal.{Refusal}
use Rattle.btf_model.specs.Walk.{HasSize, Resolves}

-- The size of a type in bytes, or 2^64 - 1 if it has none.
abbrev pub SizeOrMost : List Record → ℕ → ℕ → Type 0
SizeOrMost records id size =
    HasSize records id (Ok size) ⊎ ((size ≡ 2 ^ 64 - 1) × (refusal : Refusal) × HasSize records id (Err refusal))

-- What an id resolves to, or 2^32 - 1 if it resolves to no type.
abbrev pub ResolvedOrMost : List Record → ℕ → ℕ → Type 0
ResolvedOrMost records id to =
    Resolves records id (Ok to) ⊎ ((to ≡ 2 ^ 32 - 1) × (refusal : Refusal) × Resolves records id (Err refusal))

-- The nth place of a buffer has the value for the nth id from the first on, for as many places as there are ids and
-- room. The other places are unchanged.
pub record FillsIds (IsValue : ℕ → ℕ → Type 0) (records : List Record) (first : ℕ) (old new : List ℕ) (count : ℕ)
    : Type 0 where
  pub places : count ≡ min (length old) (length records - first)
  pub values : (n : ℕ) → n < count → IsValue (first + n) (get_or new n 0)
  pub rest : drop count new ≡ drop count old

-- the sizes of the ids, and what they resolve to
abbrev pub FillsSizes : List Record → ℕ → List ℕ → List ℕ → ℕ → Type 0
FillsSizes records = FillsIds (SizeOrMost records) records

abbrev pub FillsResolved : List Record → ℕ → List ℕ → List ℕ → ℕ → Type 0
FillsResolved records = FillsIds (ResolvedOrMost records) records
