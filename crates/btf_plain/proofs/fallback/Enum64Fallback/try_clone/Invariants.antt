use Rattle.std.proofs.Common.{◌≡◌, take}
use Rattle.std.specs.Prelude.{map}
use Rattle.btf_plain.specs.Fallback.{fallback_variant}
use Rattle.btf_plain.proofs.fallback.Enum64Fallback.try_clone.Given as goal

abbrev pub invariant-loop-variant : goal.invariant-loop-variant
invariant-loop-variant l = map fallback_variant l.variants.items ≡ map fallback_variant (take l.variant-index l.self.variants.items)
