use Rattle.std.proofs.Common.{List}
use Rattle.btf_model.specs.Record.{Record}
use Rattle.btf_model.specs.Text.{ArePassed}
use Rattle.btf_plain.specs.Kind as kinds
use Rattle.btf_view.specs.Places.{AreIndexed}
use Rattle.btf_view.proofs.finding.find_in.Given as goal

abbrev pub invariant-loop-id : goal.invariant-loop-id
invariant-loop-id l = (records : List Record) → AreIndexed l.endianness l.types l.places records → ArePassed l.strings records (kinds.kind l.fn.kind) l.name l.id
