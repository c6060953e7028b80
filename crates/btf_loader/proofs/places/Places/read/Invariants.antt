-- The numbers so far, and those of the sections that are left, are those of all sections.
use Rattle.std.proofs.Common.{◌≡◌, ◌++◌, drop}
use Rattle.btf_loader.specs.Places.{start_of, end_of, of_placed}
use Rattle.btf_loader.proofs.places.Places.read.Given as goal

abbrev pub invariant-loop-index : goal.invariant-loop-index
invariant-loop-index l =
    (l.places.starts.items ++ of_placed start_of (drop l.index l.object.sections) ≡ of_placed start_of l.object.sections)
    × (l.places.ends.items ++ of_placed end_of (drop l.index l.object.sections) ≡ of_placed end_of l.object.sections)
