-- Places in the target, as the definitions see them.
use Rattle.btf_relocate_model.specs.Search.{Found}
use Rattle.btf_relocate.specs.declared.matching.Reached.{Reached}
use Rattle.std.specs.Prelude.{Option, Result}
use Rattle.btf_model.specs.Table.{Table}
use Rattle.btf_relocate_model.specs.Match.{match_step}
use Rattle.btf_relocate_model.specs.Types.{pointer_size}
use Rattle.btf_relocate_model.specs.declared.error.RelocationError.{RelocationError}
use Rattle.btf_relocate.specs.Paths.{step_of}
use Rattle.btf_relocate.specs.declared.path.Accessor.{Accessor}

abbrev pub reached : Reached → Found
reached r = record { field = r.field; count = r.count }

-- the place that a step of an access leads to from another place; none if the step does not match
abbrev pub step_from : Table → Table → Reached → Accessor → Result (Option Found) RelocationError
step_from local target at accessor =
    match_step local (pointer_size target) target (reached at) (step_of accessor)
