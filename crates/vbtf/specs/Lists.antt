-- The outcomes of the calls that write all items of a type.
use Rattle.std.specs.Prelude.{◌≡◌, ◌⊎◌, ℕ, List, take, length, Result, Ok, Err}
use Rattle.btf_model.specs.Refusal.{Refusal}
use Rattle.btf_view.specs.Forms.{Begins}
use Rattle.vbtf.specs.Status.{ReportsRefusal}
use Rattle.vbtf.specs.declared.fault.Fault.{Fault}

-- The outcomes of a call that writes items to a buffer: items that meet P are written, as many as fit, with status 0;
-- or the status is that of an error that meets P, and the buffer is unchanged.
abbrev pub EndsListing : {X : Type 0} → ℕ → List X → List X → ℕ → Fault → (Result (List X) Refusal → Type 0) → Type 0
EndsListing {X} status old new count fault P =
    ((status ≡ 0) × (items : List X) × Begins (take (length old) items) old new count × P (Ok items))
    ⊎ ((new ≡ old) × (refusal : Refusal) × ReportsRefusal status fault refusal × P (Err refusal))
