use Rattle.btf_object.proofs.Globals.{AreGlobalBefore}
use Rattle.btf_object.proofs.finalize.kconfig.put_section.Given as goal

abbrev pub invariant-loop-entry : goal.invariant-loop-entry
invariant-loop-entry l = AreGlobalBefore l.initial.btf l.entry-items l.entry-index l.btf
