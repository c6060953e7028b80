-- The sections from the last one down have their names in the map.
use Rattle.std.proofs.Common.{◌-◌}
use Rattle.btf_loader.specs.Names.{HasIndicesFrom}
use Rattle.btf_loader.proofs.names.sections_by_name.Given as goal

abbrev pub invariant-loop-done : goal.invariant-loop-done
invariant-loop-done l = HasIndicesFrom l.named l.object (l.count - l.done)
