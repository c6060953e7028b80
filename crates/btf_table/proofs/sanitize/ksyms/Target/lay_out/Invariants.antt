use Rattle.std.proofs.Common.{◌≡◌, ℕ, Option}
use Rattle.btf_table.specs.KsymsStep.{symbol_target}
use Rattle.btf_table.proofs.KsymsItems.{laid_to}
use Rattle.btf_table.proofs.sanitize.ksyms.Target.lay_out.Given as goal

abbrev pub invariant-loop-index : goal.invariant-loop-index
invariant-loop-index l =
    (l.laid_out.info ≡ l.data_sec.info)
    × ((placeholder : Option ℕ) → l.self ≡ symbol_target l.btf placeholder → l.laid_out ≡ record l.data_sec { tail = laid_to l.btf placeholder l.index l.entry-items })
