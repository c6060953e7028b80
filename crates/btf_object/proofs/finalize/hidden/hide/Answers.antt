use Rattle.std.proofs.Common.{sym}
use Rattle.std.specs.HashMap.{get_by_text}
use Rattle.btf_object.proofs.Hiding.{not_hidden, one_hidden}
use Rattle.btf_object.proofs.finalize.hidden.hide.Goals as goal

pub returns-then-not-is_hidden_type : goal.returns-then-not-is_hidden_type
returns-then-not-is_hidden_type g c =
    not_hidden (get_by_text c.args.hidden.now) c.args.btf.now c.args.type_id c.in-Ok.found.now c.in-Ok.ensures (sym c.if-not-is_hidden_type.ensures)

pub returns : goal.returns
returns g c =
    one_hidden (get_by_text c.args.hidden.now) c.args.btf.now c.args.type_id c.in-Ok.found.now c.in-Ok.ensures c.set_type.new.table c.in-Some.made (sym c.if-not-is_hidden_type.ensures) c.in-Some.ensures.some c.set_type.ensures
