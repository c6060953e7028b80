-- The entries are those of the types so far.
use Rattle.btf_relocate.proofs.Indexes.{Before}
use Rattle.btf_relocate.proofs.target.types_with_name.Given as goal

abbrev pub invariant-loop-type_id : goal.invariant-loop-type_id
invariant-loop-type_id l = Before l.table l.entries.items l.type_id
