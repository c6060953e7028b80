use Rattle.std.specs.Prelude.{map, slice_get}
use Rattle.btf_model.specs.Walk.{By, Leads, size_in}
use Rattle.btf_records.specs.BtfType.{record_of}
use Rattle.btf_table.proofs.table.walk.size.Given as goal

abbrev pub invariant-loop : goal.invariant-loop
invariant-loop l = Leads (By (λ at. size_in at (slice_get (map record_of l.types) at.type))) l.counter (record { count = 1; type = l.type_id }) (record { count = l.count; type = l.id })
