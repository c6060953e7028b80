-- The steps so far, and the path of the indices that are left.
use Rattle.std.proofs.Common.{◌≡◌, drop, map}
use Rattle.btf_relocate_model.specs.Path.{path_of}
use Rattle.btf_relocate.specs.Paths.{step_of}
use Rattle.btf_relocate.proofs.Paths.{finish}
use Rattle.btf_relocate.proofs.path.Path.new.Given as goal

abbrev pub invariant-loop-at : goal.invariant-loop-at
invariant-loop-at l = finish l.table (map step_of l.accessors.items) l.is_step l.field (drop l.at l.indices) ≡ path_of l.table l.type_id l.indices
