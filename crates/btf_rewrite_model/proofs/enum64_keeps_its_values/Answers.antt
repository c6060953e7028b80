use Rattle.btf_rewrite_model.proofs.Ruled.{enum64_kept}
use Rattle.btf_rewrite_model.proofs.enum64_keeps_its_values.Goals as goal

pub returns : goal.returns
returns c = enum64_kept
