-- The rest of the walk ends as the whole walk does.
use Rattle.std.proofs.Common.{◌≡◌, ◌-◌}
use Rattle.std.specs.Prelude.{slice_get}
use Rattle.btf_model.specs.Walk.{Elements, walk_limit}
use Rattle.btf_relocate_model.specs.Types.{walk, size_found}
use Rattle.btf_relocate.proofs.size.size_of.Given as goal

abbrev pub invariant-loop : goal.invariant-loop
invariant-loop l =
    let find = λ (at : Elements). size_found l.pointer_size at (slice_get l.table.records at.type) in
    walk find (walk_limit - l.counter) (record { count = l.count; type = l.id }) ≡ walk find walk_limit (record { count = 1; type = l.type_id })
