-- What is found so far, and what is found in the other tables, is what is found in all of them.
use Rattle.std.proofs.Common.{◌≡◌, ◌++◌, drop, map}
use Rattle.btf_relocate_model.specs.Modules as model
use Rattle.btf_relocate.specs.Modules.{found_view}
use Rattle.btf_relocate.proofs.modules.find_in.Given as goal

abbrev pub invariant-loop-target : goal.invariant-loop-target
invariant-loop-target l =
    map found_view l.found.items ++ map (model.found_in l.local l.type_id) (drop l.target-index l.targets) ≡ map (model.found_in l.local l.type_id) l.targets
