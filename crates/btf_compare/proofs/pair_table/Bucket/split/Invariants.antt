use Rattle.std.proofs.Common.{◌≡◌, ◌+◌, length, take}
use Rattle.btf_compare.specs.PairTable.{AreShared, entries_of}
use Rattle.btf_compare.proofs.pair_table.Bucket.split.Given as goal

abbrev pub invariant-loop-entry : goal.invariant-loop-entry
invariant-loop-entry l = record {
  shared : AreShared l.mask l.number (entries_of l.stay) (entries_of l.go) (take l.entry-index l.entry-items);
  counts : length (entries_of l.stay) + length (entries_of l.go) ≡ l.entry-index;
  stay : l.stay.overflows ≡ l.self.overflows;
  go : l.go.overflows ≡ l.self.overflows;
}
