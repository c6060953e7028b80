use Rattle.std.proofs.Common.{List}
use Rattle.std.specs.Prelude.{slice_get}
use Rattle.btf_model.specs.Record.{Record}
use Rattle.btf_model.specs.Walk.{By, Leads, unmodified_in}
use Rattle.btf_view.specs.Places.{AreIndexed}
use Rattle.btf_view.proofs.walk.resolve_from.Given as goal

abbrev pub invariant-loop : goal.invariant-loop
invariant-loop l = (records : List Record) → AreIndexed l.endianness l.types l.places records → Leads (By (λ at. unmodified_in at (slice_get records at))) l.counter l.type_id l.id
