use Rattle.std.proofs.lemmas.Result.{on_ok_weaker}
use Rattle.btf_rewrite_model.specs.Pass.{filler_type_text, filler_text}
use Rattle.btf_table.proofs.SectionItems.{adds_int_and_var}
use Rattle.btf_table.proofs.Checks.{checked_ok}
use Rattle.btf_table.proofs.sanitize.filler.append_filler.Goals as goal

pub returns-clause-adds : goal.returns-clause-adds
returns-clause-adds c =
    on_ok_weaker c.append_type-2.result (λ last.
    adds_int_and_var c.args.btf.now c.args.changes.now c.append_text.new.self c.append_type.new.self c.append_text-2.new.self c.append_type-2.new.self filler_type_text filler_text
    c.in_ok-type_name.type_name c.in_ok-name.name c.in_ok-int_id.int_id c.new-int.result c.new-var.result
    c.in_ok-type_name.ensures.adds c.in_ok-int_id.ensures.adds c.in_ok-name.ensures.adds last
    (checked_ok _ _ _ c.in_ok-type_name.ensures.answer).1 c.new-int.ensures (checked_ok _ _ _ c.in_ok-int_id.ensures.answer).1 (checked_ok _ _ _ c.in_ok-name.ensures.answer).1 c.new-var.ensures)
    c.append_type-2.ensures.adds
