-- The ids are those of the entries so far.
use Rattle.std.proofs.Common.{◌≡◌, map, take}
use Rattle.btf_relocate.specs.Entries.{id_of}
use Rattle.btf_relocate.proofs.target.TargetIndex.of_types.Given as goal

abbrev pub invariant-loop-entry : goal.invariant-loop-entry
invariant-loop-entry l = l.ids.items ≡ map id_of (take l.entry-index l.entry-items)
