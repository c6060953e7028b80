use Rattle.std.proofs.Common.{sym, subst}
use Rattle.btf_table.specs.Features.{AreDistinct}
use Rattle.btf_table.proofs.Answered.{none_distinct}
use Rattle.btf_table.proofs.sanitize.features.BtfFeatureResolver.new.Goals as goal

pub invariant_of-result : goal.invariant_of-result
invariant_of-result g c = subst AreDistinct (sym c.new.ensures) none_distinct
