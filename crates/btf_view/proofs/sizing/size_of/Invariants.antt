use Rattle.std.proofs.Common.{List}
use Rattle.std.specs.Prelude.{slice_get}
use Rattle.btf_model.specs.Record.{Record}
use Rattle.btf_model.specs.Walk.{By, Leads, size_in}
use Rattle.btf_view.specs.Places.{AreIndexed}
use Rattle.btf_view.proofs.sizing.size_of.Given as goal

abbrev pub invariant-loop : goal.invariant-loop
invariant-loop l = (records : List Record) → AreIndexed l.endianness l.types l.places records → Leads (By (λ at. size_in at (slice_get records at.type))) l.counter (record { count = 1; type = l.type_id }) (record { count = l.count; type = l.id })
