-- Why an object is not prepared for a kernel, as the code reports it.
use Rattle.std.specs.Prelude.{ℕ, Bool, List, map}
use Rattle.btf_model.specs.Table.{Table}
use Rattle.btf_loader_model.specs.Loader.{Outcomes, IsRelocated}
use Rattle.btf_loader_model.specs.Refused.{IsReason}
use Rattle.btf_object.specs.Errors as object
use Rattle.btf_object_model.specs.Sanitized.{Target}
use Rattle.btf_loader.specs.Errors.{IsLoaderCause}
use Rattle.btf_loader.specs.declared.error.PrepareError.{PrepareError}
use Rattle.btf_loader.specs.declared.error.PrepareError.TheVariants.{Relocate, Sanitize}
use Rattle.btf_loader_model.specs.Prepared.{IsPrepared}
use Rattle.btf_loader.specs.Results.{outcomes_of}
use Rattle.btf_loader.specs.declared.prepare.Prepared.{Prepared}
use Rattle.btf_relocate.specs.Sections.{is_shared}
use Rattle.btf_relocate.specs.declared.section.CandidatePolicy.{CandidatePolicy}

-- The object is not relocated for this reason; or it is relocated, and the table of the relocated object is not
-- rewritten for this reason.
abbrev pub IsPrepareCause : List ℕ → Table → Bool → Bool → Target → PrepareError → Type 0
IsPrepareCause bytes target is_shared refuses_errors kernel (Relocate e) =
    IsLoaderCause (IsReason bytes target is_shared refuses_errors) e
IsPrepareCause bytes target is_shared refuses_errors kernel (Sanitize e) =
    (middle : List ℕ) × (outcomes : List (ℕ × Outcomes)) × IsRelocated bytes target is_shared outcomes middle
    × object.IsSanitizeCause middle kernel e

-- The bytes are prepared: their code is relocated, and the table of the relocated object is rewritten for the kernel.
abbrev pub HasPrepared : List ℕ → Table → CandidatePolicy → Target → Prepared → Type 0
HasPrepared bytes target policy kernel p =
    IsPrepared bytes target (is_shared policy) kernel (map outcomes_of p.outcomes.items) p.answers.items p.file.items
