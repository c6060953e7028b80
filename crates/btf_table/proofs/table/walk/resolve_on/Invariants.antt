use Rattle.std.specs.Prelude.{map, slice_get}
use Rattle.btf_model.specs.Walk.{By, Leads, unmodified_in}
use Rattle.btf_records.specs.BtfType.{record_of}
use Rattle.btf_table.proofs.table.walk.resolve_on.Given as goal

abbrev pub invariant-loop : goal.invariant-loop
invariant-loop l = Leads (By (λ at. unmodified_in at (slice_get (map record_of l.types) at))) l.counter l.type_id l.id
