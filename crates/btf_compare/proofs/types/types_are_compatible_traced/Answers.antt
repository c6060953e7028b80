use Rattle.btf_compare.specs.Pairs.{id_pair}
use Rattle.btf_compare.proofs.Starts.{gains}
use Rattle.btf_compare.proofs.types.types_are_compatible_traced.Goals as goal

pub returns-clause-starts : goal.returns-clause-starts
returns-clause-starts c =
    let h = c.compare.ensures in
    gains c.args.local.now c.args.target.now (id_pair c.args.local_id c.args.target_id) h.0 h.1 c.compare.result c.args.starts.now.items c.compare.new.starts.items h.2 h.3
