use Rattle.std.proofs.Common.{◌≡◌, length, map}
use Rattle.btf_model.specs.Table.{Table}
use Rattle.btf_object.specs.Finalize.{data_sec_size}
use Rattle.btf_object.proofs.Finalizing.{ArePartlySized}
use Rattle.btf_object.proofs.finalize.sized.set_sizes.Given as goal

abbrev pub invariant-loop-type_id : goal.invariant-loop-type_id
invariant-loop-type_id l =
    (length l.btf.records ≡ length l.initial.btf.records)
    × ((base : Table) → l.sizes ≡ map data_sec_size base.records → ArePartlySized base l.initial.btf l.btf l.type_id)
