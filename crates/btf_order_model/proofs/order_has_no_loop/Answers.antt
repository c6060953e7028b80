use Rattle.btf_order_model.proofs.Loops.{no_loop_in_order}
use Rattle.btf_order_model.proofs.order_has_no_loop.Goals as goal

pub returns : goal.returns
returns c = no_loop_in_order
