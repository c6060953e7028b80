-- No candidate is in the tables so far.
use Rattle.std.proofs.Common.{◌≡◌, drop, map}
use Rattle.btf_relocate_model.specs.Modules.{first_in_modules}
use Rattle.btf_relocate.specs.Modules.{found_view}
use Rattle.btf_relocate.proofs.modules.first_in_modules.Given as goal

abbrev pub invariant-loop-index : goal.invariant-loop-index
invariant-loop-index l = first_in_modules 0 (map found_view l.found) ≡ first_in_modules l.index (map found_view (drop l.index l.found))
