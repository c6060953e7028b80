use Rattle.std.proofs.Common.{◌≡◌, ℕ, [], ◌∷◌, ap, subst, ◌∙◌}
use Rattle.std.proofs.lemmas.Result.{on_ok_weaker}
use Rattle.btf_model.specs.Record.{Record}
use Rattle.btf_rewrite_model.specs.Made.{byte_int}
use Rattle.btf_rewrite_model.specs.Checks.{has_room}
use Rattle.btf_rewrite_model.specs.Pass.{member_type_text}
use Rattle.btf_table.specs.Adding.{next_string_offset, Adds}
use Rattle.btf_table.proofs.Adding.{adds_then}
use Rattle.btf_table.proofs.Checks.{checked_ok}
use Rattle.btf_table.proofs.sanitize.enumeration64.append_member_type.Goals as goal

pub returns-clause-adds : goal.returns-clause-adds
returns-clause-adds c =
    let offset : ℕ = next_string_offset c.args.btf.now c.args.changes.now in
    let at : c.in_ok-name_offset.name_offset ≡ offset = (checked_ok (has_room offset member_type_text) offset c.in_ok-name_offset.name_offset c.in_ok-name_offset.ensures.answer).1 in
    let words : c.new-int.result ≡ byte_int offset = c.new-int.ensures ∙ ap byte_int at in
    on_ok_weaker c.append_type.result
    (λ later. subst (λ (r : Record). Adds c.args.btf.now c.args.changes.now c.append_type.new.self (member_type_text ∷ []) (r ∷ [])) words
    (adds_then c.args.btf.now c.args.changes.now c.append_text.new.self c.append_type.new.self (member_type_text ∷ []) [] [] (c.new-int.result ∷ []) c.in_ok-name_offset.ensures.adds later))
    c.append_type.ensures.adds
