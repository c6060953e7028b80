use Rattle.std.proofs.Common.{ℕ, List}
use Rattle.btf_compare.specs.Pairs.{id_pair}
use Rattle.btf_compare.proofs.Comparing.{answers}
use Rattle.btf_compare.proofs.types.types_are_compatible.Goals as goal

pub returns : goal.returns
returns c = answers c.args.local.now c.args.target.now (id_pair c.args.local_id c.args.target_id) c.compare.result (λ (ids : List (ℕ × ℕ)). Unit {0}) c.compare.ensures
