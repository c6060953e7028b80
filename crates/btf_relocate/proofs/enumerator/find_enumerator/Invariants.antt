-- The enumerators so far have other names.
use Rattle.std.proofs.Common.{◌≡◌, drop}
use Rattle.btf_view.specs.TypeRef.{record_in}
use Rattle.btf_relocate_model.specs.Enumerator.{first_named}
use Rattle.btf_relocate.specs.Enumerators.{type_enumerators}
use Rattle.btf_relocate.proofs.enumerator.find_enumerator.Given as goal

abbrev pub invariant-loop-index : goal.invariant-loop-index
invariant-loop-index l = first_named l.table l.name (drop l.index (type_enumerators (record_in l.btf_type))) ≡ first_named l.table l.name (type_enumerators (record_in l.btf_type))
