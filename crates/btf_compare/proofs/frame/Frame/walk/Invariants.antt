use Rattle.std.proofs.Common.{◌≡◌, ◌-◌}
use Rattle.btf_model.specs.Walk.{walk_limit}
use Rattle.btf_compare.specs.Compared.{WalksTo, frame_of, passed_in}
use Rattle.btf_compare.proofs.frame.Frame.walk.Given as goal

abbrev pub invariant-positions : goal.invariant-positions
invariant-positions l = record {
  walks : WalksTo l.local l.target (passed_in l.passed) (frame_of l.fn.self) (frame_of l.self);
  pair : l.self.pair ≡ l.fn.self.pair;
}

abbrev pub decreases-positions : goal.decreases-positions
decreases-positions l = walk_limit - l.self.taken
