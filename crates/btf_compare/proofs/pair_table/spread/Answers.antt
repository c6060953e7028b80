use Rattle.std.proofs.Common.{refl}
use Rattle.btf_compare.specs.Buckets.{spread}
use Rattle.btf_compare.proofs.pair_table.spread.Goals as goal

pub returns : goal.returns
unfolding spread
returns c = refl
