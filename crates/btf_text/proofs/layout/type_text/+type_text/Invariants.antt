-- Each prototype inside another one is written with a depth that is smaller by one.
use Rattle.std.proofs.Common.{◌≡◌, ◌+◌, ◌*◌}
use Rattle.btf_text.proofs.layout.type_text.+type_text.Given as goal

abbrev pub decreases-add_declared : goal.decreases-add_declared
decreases-add_declared l = 3 * l.depth + 2

abbrev pub decreases-add_param : goal.decreases-add_param
decreases-add_param l = 3 * l.depth + 3

abbrev pub decreases-add_params : goal.decreases-add_params
decreases-add_params l = 3 * l.depth + 1

abbrev pub invariant-add_declared-loop-step : goal.invariant-add_declared-loop-step
invariant-add_declared-loop-step l = l.depth ≡ l.fn.depth

abbrev pub invariant-add_params-loop-index : goal.invariant-add_params-loop-index
invariant-add_params-loop-index l = l.deeper + 1 ≡ l.fn.depth
