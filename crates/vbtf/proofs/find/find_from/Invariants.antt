-- The ids from the first one on that are below this one are skipped.
use Rattle.std.proofs.Common.{◌≤◌}
use Rattle.std.specs.Option.{option_map}
use Rattle.btf_plain.specs.Kind as kinds
use Rattle.vbtf.specs.Finding.{AreSkipped}
use Rattle.vbtf.proofs.find.find_from.Given as goal

abbrev pub invariant-loop-id : goal.invariant-loop-id
invariant-loop-id l = record {
  from : l.first ≤ l.id;
  skipped : AreSkipped l.table.strings l.table.records (option_map kinds.kind l.wanted) l.name l.first l.id;
}
