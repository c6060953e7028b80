use Rattle.std.proofs.Common.{ap, sym, ◌∙◌}
use Rattle.std.specs.HashMap.{get_by_text}
use Rattle.btf_object.proofs.Hiding.{text_known, no_text_known}
use Rattle.btf_object.proofs.finalize.hidden.symbol_type.Goals as goal

pub returns-in-Ok : goal.returns-in-Ok
returns-in-Ok g c =
    c.copied.ensures ∙ c.get.ensures.value ∙ ap (get_by_text c.args.hidden.now) c.in-Ok.ensures.cases.0
    ∙ text_known (get_by_text c.args.hidden.now) _ c.in_ok-name.name.now (sym c.in_ok-name.ensures) c.in-Ok.ensures.cases.1

pub returns-in-Err : goal.returns-in-Err
returns-in-Err g c = no_text_known (get_by_text c.args.hidden.now) _ c.in_ok-name.name.now (sym c.in_ok-name.ensures) c.in-Err.ensures.cases.0
