use Rattle.std.proofs.Common.{take}
use Rattle.btf_compare.specs.Entries.{IsNoPair}
use Rattle.btf_compare.proofs.entries.Entries.place.Given as goal

-- none of the entries so far is the pair's
abbrev pub invariant-loop-index : goal.invariant-loop-index
invariant-loop-index g l = IsNoPair l.pair (take l.index l.entry-items)
