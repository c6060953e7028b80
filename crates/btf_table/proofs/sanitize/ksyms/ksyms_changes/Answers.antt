use Rattle.std.proofs.Common.{◌≡◌, ◌+◌, ◌≤◌, ◌++◌, [], ◌∷◌, length, refl, ap, sym, subst, ◌∙◌, arith}
use Rattle.std.proofs.lemmas.List.{length-map}
use Rattle.std.proofs.lemmas.Option.{IfSome_then}
use Rattle.btf_model.specs.Record.{Record}
use Rattle.btf_model.specs.Table.{type_bytes, section_limit}
use Rattle.btf_rewrite_model.specs.Made.{c_int}
use Rattle.btf_rewrite_model.specs.Ksyms.{ksyms_table, appends_int, int_text}
use Rattle.btf_records.specs.BtfType.{record_of, fallback_of}
use Rattle.btf_records.specs.declared.btf_type.BtfType.{BtfType}
use Rattle.btf_records.specs.declared.btf_type.BtfType.TheVariants.{Int}
use Rattle.btf_table.specs.Changes.{AreChangesOf, changed}
use Rattle.btf_table.specs.KsymsStep.{ksyms_ids, MakesKsyms, AreStepped}
use Rattle.btf_plain.proofs.Refused.{handed_on}
use Rattle.btf_table.proofs.KsymsSteps.{stays_as_stepped, grows_by_int, int_has_room}
use Rattle.btf_table.proofs.sanitize.ksyms.ksyms_changes.Goals.{then-step+in_ok-push_text+in_ok-push_type, else-step}
use Rattle.btf_table.proofs.sanitize.ksyms.ksyms_changes.Goals as goal

pub returns-in_err-new_types : goal.returns-in_err-new_types
returns-in_err-new_types c =
    let ids : _ = ksyms_ids c.args.datasec_id c.args.placeholder_id in
    handed_on (λ s. s) c.in_err-new_types.field-0.0 c.from_residual-in_err-new_types.result (MakesKsyms c.args.btf.now ids) c.from_residual-in_err-new_types.ensures.1
    (IfSome_then _ (c.in_err-new_types.ensures ids c.in_ok-step.ensures.1) (λ refusal none. absurd none))

pub returns : goal.returns
returns c =
    let t : _ = c.args.btf.now in
    let ids : _ = ksyms_ids c.args.datasec_id c.args.placeholder_id in
    let ts : _ = c.as_slice.result.now in
    let many : length t.fallbacks ≡ length t.records = omega (arith, ap length c.as_slice.ensures.records, ap length c.as_slice.ensures.fallbacks, length-map ts record_of, length-map ts fallback_of) in
    let string_room : length t.strings ≤ section_limit = omega (arith, c.string_len-name_offset.ensures.len, c.string_len-name_offset.ensures.limit) in
    let type_room : length (type_bytes t) ≤ section_limit = omega (arith, c.type_len.ensures.len, c.type_len.ensures.limit) in
    let stepped : AreStepped t ids (length t.records) c.in_ok-new_types.field-0.items = c.in_ok-new_types.ensures ids c.in_ok-step.ensures.1 in
    let is_int : appends_int t ids.placeholder_id ≡ c.in_ok-step.step.target.appends_int = ap (λ x. x.appends_int) (sym c.in_ok-step.ensures.1.target) in
    let both : AreChangesOf t c.if-step.changes × (changed t c.if-step.changes ≡ ksyms_table t ids) =
    elim c.if-step.branch [
      | then-step+in_ok-push_text+in_ok-push_type w ↦
          let here : c.if-step.changes.types.items ≡ c.in_ok-new_types.field-0.items = ap (λ x. x.types.items) w.changes-is ∙ ap (λ v. v.items) (w.push_type.ensures.types ∙ w.push_text.ensures.types) in
          let room : _ = int_has_room t ids c.in_ok-step.ensures.0 (is_int ∙ w.if-step.true) in
          let strings : c.if-step.changes.new_strings.items ≡ int_text ++ 0 ∷ [] =
          ap (λ x. x.new_strings.items) w.changes-is ∙ ap (λ v. v.items) w.push_type.ensures.strings ∙ w.in_ok-push_text.ensures.strings ∙ ap (λ xs. xs ++ (int_text ++ 0 ∷ [])) c.new-2.ensures.items in
          let int : BtfType = Int w.new-int.result in
          let types : c.if-step.changes.new_types.items ≡ int ∷ [] =
          ap (λ x. x.new_types.items) w.changes-is ∙ w.in_ok-push_type.ensures.new_types ∙ ap (λ v. v.items ++ int ∷ []) w.push_text.ensures.new_types ∙ ap (λ xs. xs ++ int ∷ []) c.new-3.ensures.items in
          let len : c.if-step.changes.type_len ≡ length (type_bytes t) + 16 =
          ap (λ x. x.type_len) w.changes-is ∙ w.in_ok-push_type.ensures.type_len ∙ omega (arith, w.push_text.ensures.type_len, c.type_len.ensures.len, ap (λ (r : Record). length r.tail) w.new-int.ensures) in
          grows_by_int t ids c.if-step.changes (subst (λ cs. AreStepped t ids (length t.records) cs) (sym here) stepped) many c.allocator-alloc.ensures string_room type_room c.as_slice.ensures.first.0 int c.as_slice.ensures.first.1
          (is_int ∙ w.if-step.true) strings (w.new-int.ensures ∙ ap c_int c.string_len-name_offset.ensures.len) refl types len room.0 room.1
      | else-step w ↦
          let here : c.if-step.changes.types.items ≡ c.in_ok-new_types.field-0.items = ap (λ x. x.types.items) w.changes-is in
          stays_as_stepped t ids c.if-step.changes (subst (λ cs. AreStepped t ids (length t.records) cs) (sym here) stepped) many c.allocator-alloc.ensures string_room type_room
          (is_int ∙ w.if-step.false) (ap (λ x. x.new_strings.items) w.changes-is ∙ c.new-2.ensures.items) (ap (λ x. x.new_types.items) w.changes-is ∙ c.new-3.ensures.items) (ap (λ x. x.type_len) w.changes-is ∙ c.type_len.ensures.len)
    ] in
    (c.in_ok-step.ensures.0, both.0, both.1)
