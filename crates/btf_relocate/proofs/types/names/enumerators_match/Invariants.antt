-- The names of the enumerators so far are among these.
use Rattle.std.proofs.Common.{ℕ, List}
use Rattle.btf_view.specs.TypeRef.{record_in}
use Rattle.btf_relocate_model.specs.Comparison.{enumerators_of}
use Rattle.btf_relocate.specs.Steps.{HasNames}
use Rattle.btf_relocate.proofs.Definitions.{AllLeft}
use Rattle.btf_relocate.proofs.types.names.enumerators_match.Given as goal

abbrev pub invariant-loop-index : goal.invariant-loop-index
invariant-loop-index l =
    (all : List (List ℕ)) → HasNames l.names all → AllLeft l.local all (enumerators_of (record_in l.one)) l.index
