use Rattle.std.proofs.Common.{◌∙◌, sym, ap}
use Rattle.std.specs.Prelude.{slice_get}
use Rattle.btf_model.specs.Record as model
use Rattle.btf_view.proofs.KindNames.{kind_in}
use Rattle.btf_view.proofs.record.kind_of_head.Goals as goal

pub returns-in_default : goal.returns-in_default
returns-in_default c = sym (ap (slice_get model.kinds) (sym c.kind.ensures) ∙ c.in_default.ensures.0)

pub returns : goal.returns
returns c = sym (kind_in c.args.head.now.info c.kind.result c.in-Ok.kind c.in-Ok.ensures c.kind.ensures)
