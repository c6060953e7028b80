use Rattle.std.proofs.Common.{map, take}
use Rattle.btf_model.specs.Value.{HaveOtherNames}
use Rattle.btf_above.proofs.above.variant.find_value.Given as goal

abbrev pub invariant-loop-variant : goal.invariant-loop-variant
invariant-loop-variant g l = HaveOtherNames l.btf.strings l.name (take l.variant-index (map g.V.Variant.variant l.variants))
