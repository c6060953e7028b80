-- The steps so far lead to a place. The place after the other steps is that of the whole path.
use Rattle.std.proofs.Common.{◌≡◌, drop, map, Some}
use Rattle.btf_relocate_model.specs.Match.{match_from, match_path}
use Rattle.btf_relocate_model.specs.Types.{pointer_size}
use Rattle.btf_relocate.specs.Matching.{reached}
use Rattle.btf_relocate.specs.Paths.{step_of}
use Rattle.btf_relocate.proofs.matching.matching_field.Given as goal

abbrev pub invariant-loop-accessor : goal.invariant-loop-accessor
invariant-loop-accessor l =
    match_from l.local (pointer_size l.target) l.target (map step_of (drop l.accessor-index l.rest)) (Some (reached l.at))
    ≡ match_path l.local (pointer_size l.target) l.target (map step_of l.path.accessors.items) l.candidate
