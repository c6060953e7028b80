use Rattle.std.proofs.Common.{◌≡◌, take}
use Rattle.btf_object.proofs.finalize.section.copied.Given as goal

abbrev pub invariant-loop-entry : goal.invariant-loop-entry
invariant-loop-entry l = l.copied.items ≡ take l.entry-index l.entries
