-- The names of the enumerators so far are read.
use Rattle.btf_view.specs.TypeRef.{record_in}
use Rattle.btf_relocate_model.specs.Comparison.{enumerators_of}
use Rattle.btf_relocate.proofs.Definitions.{NamesSoFar}
use Rattle.btf_relocate.proofs.types.names.essential_names.Given as goal

abbrev pub invariant-loop-index : goal.invariant-loop-index
invariant-loop-index l = NamesSoFar l.table (enumerators_of (record_in l.btf_type)) l.names l.index
