use Rattle.btf_table.proofs.Enum64s.{kept_all}
use Rattle.btf_table.proofs.sanitize.enumeration64.fallback_variants.Goals as goal

pub returns : goal.returns
returns c = kept_all c.loop-variant.kept.items c.args.variants.now c.loop-variant.variant-index c.loop-variant-test.false c.loop-variant.invariant
