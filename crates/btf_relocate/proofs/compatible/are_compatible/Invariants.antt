-- The comparison of the pair has the answer of the first pair.
use Rattle.std.proofs.Common.{◌≡◌, ◌-◌}
use Rattle.btf_model.specs.Walk.{walk_limit}
use Rattle.btf_relocate_model.specs.Compatible.{compatible_within, compatible}
use Rattle.btf_relocate.proofs.compatible.are_compatible.Given as goal

abbrev pub invariant-loop : goal.invariant-loop
invariant-loop l =
    compatible_within (walk_limit - l.counter) l.local_id l.local l.target l.id l.other_id ≡ compatible l.local l.target l.local_id l.target_id
