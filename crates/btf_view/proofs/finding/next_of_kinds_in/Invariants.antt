use Rattle.std.proofs.Common.{List}
use Rattle.btf_model.specs.Record.{Record}
use Rattle.btf_view.specs.Places.{AreIndexed}
use Rattle.btf_view.specs.TableRef.{AreOfOtherKinds}
use Rattle.btf_view.proofs.finding.next_of_kinds_in.Given as goal

abbrev pub invariant-loop-id : goal.invariant-loop-id
invariant-loop-id l = (records : List Record) → AreIndexed l.endianness l.types l.places records → AreOfOtherKinds records l.first l.id l.kind l.other
