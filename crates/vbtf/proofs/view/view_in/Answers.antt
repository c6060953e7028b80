use Rattle.std.proofs.Common.{refl}
use Rattle.vbtf.proofs.Viewing.{in_order}
use Rattle.vbtf.proofs.view.view_in.Goals as goal

pub returns : goal.returns
returns c = record {
  order_fits = c.in-Some.ensures.0;
  strings_are = refl;
  shows = λ records h. in_order c.args.order c.in-Some.endianness c.args.types.now c.args.places.now records c.in-Some.ensures.1 h;
}
