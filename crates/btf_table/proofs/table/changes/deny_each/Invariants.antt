use Rattle.std.specs.Prelude.{take}
use Rattle.btf_table.specs.Denied.{AreDenied}
use Rattle.btf_table.proofs.table.changes.deny_each.Given as goal

abbrev pub invariant-loop-at : goal.invariant-loop-at
invariant-loop-at l = AreDenied (take l.at l.fn.ids) l.fn.types l.types
