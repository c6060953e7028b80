use Rattle.btf_object.proofs.Externs.{AreKnownBefore}
use Rattle.btf_object.proofs.finalize.kconfig.externs_of.Given as goal

abbrev pub invariant-loop-entry : goal.invariant-loop-entry
invariant-loop-entry l = AreKnownBefore l.btf l.entry-items l.entry-index l.externs.items
