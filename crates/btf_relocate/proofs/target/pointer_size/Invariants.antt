-- No type so far is the C type `long`.
use Rattle.std.proofs.Common.{◌≡◌, drop}
use Rattle.std.specs.Prelude.{filter}
use Rattle.btf_relocate_model.specs.Types.{first_size, is_long, pointer_size}
use Rattle.btf_relocate.proofs.target.pointer_size.Given as goal

abbrev pub invariant-loop-type_id : goal.invariant-loop-type_id
invariant-loop-type_id l = first_size (filter (is_long l.table) (drop l.type_id l.table.records)) ≡ pointer_size l.table
