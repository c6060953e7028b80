use Rattle.std.proofs.Common.{ap, length, arith, ◌≤◌}
use Rattle.btf_loader.specs.Places.{start_of, end_of}
use Rattle.btf_loader.proofs.Sharing.{are_of}
use Rattle.btf_loader.proofs.places.Places.read.Goals as goal

pub returns : goal.returns
returns c =
    let end : length c.args.object.now.sections ≤ c.loop-index.index = omega (arith, ap length c.sections-index-end.ensures, c.loop-index-test.false) in record {
      starts = are_of start_of c.args.object.now.sections c.loop-index.index c.loop-index.places.starts.items c.sort_unstable.new.self.items end c.loop-index.invariant.0 c.sort_unstable.ensures.permutation c.sort_unstable.ensures.sorted;
      ends = are_of end_of c.args.object.now.sections c.loop-index.index c.loop-index.places.ends.items c.sort_unstable-2.new.self.items end c.loop-index.invariant.1 c.sort_unstable-2.ensures.permutation c.sort_unstable-2.ensures.sorted;
    }
