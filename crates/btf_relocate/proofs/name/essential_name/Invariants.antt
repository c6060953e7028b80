-- No flavor begins at the places that were tried.
use Rattle.std.proofs.Common.{◌≡◌, drop, false}
use Rattle.btf_relocate_model.specs.Name.{has_flavor}
use Rattle.btf_relocate.proofs.name.essential_name.Given as goal

abbrev pub invariant-loop-last : goal.invariant-loop-last
invariant-loop-last l = has_flavor (drop l.last l.name) ≡ false
