use Rattle.std.proofs.Common.{◌≡◌, ℕ, List, take}
use Rattle.btf.specs.Layout.{offsets_of}
use Rattle.vbtf.specs.Program.{number_named, AreReadableEntries}
use Rattle.vbtf.proofs.program.read_symbols.Given as goal

abbrev pub invariant-loop-entry : goal.invariant-loop-entry
invariant-loop-entry l = record {
  numbers : (name : List ℕ) → offsets_of l.map name ≡ number_named l.names (take l.entry-index l.entries) name;
  readable : AreReadableEntries l.names (take l.entry-index l.entries);
}
