use Rattle.std.proofs.Common.{◌<◌, ℕ}
use Rattle.btf_layout.specs.Progress.{KnowsOutcomes, NoneOpen, IsKnown, progress_in}
use Rattle.btf_layout.proofs.alignments.Alignments.of_table.Given as goal

abbrev pub invariant-loop-id : goal.invariant-loop-id
invariant-loop-id l = record {
  knows : KnowsOutcomes l.table.records l.known.items;
  closed : NoneOpen l.known.items;
  done : (k : ℕ) → k < l.id → IsKnown (progress_in l.known.items k);
}
