use Rattle.btf_object.proofs.Externs.{AreLaidOutBefore}
use Rattle.btf_object.proofs.finalize.kconfig.lay_out.Given as goal

abbrev pub invariant-loop-it : goal.invariant-loop-it
invariant-loop-it l = AreLaidOutBefore l.externs l.it-index l.entries.items l.size
