use Rattle.std.proofs.Common.{◌≡◌, take, map}
use Rattle.btf_plain.specs.Fallback.{fallback_variant}
use Rattle.btf_table.proofs.Enum64s.{variant}
use Rattle.btf_table.proofs.sanitize.enumeration64.fallback_variants.Given as goal

abbrev pub invariant-loop-variant : goal.invariant-loop-variant
invariant-loop-variant l = map fallback_variant l.kept.items ≡ map variant (take l.variant-index l.variants)
