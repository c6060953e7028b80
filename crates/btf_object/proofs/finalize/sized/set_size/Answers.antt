use Rattle.std.proofs.Common.{◌≡◌, List, ℕ, length, sym, ap, ◌∙◌}
use Rattle.std.specs.List.{flat_map}
use Rattle.btf_model.specs.Record.{Record}
use Rattle.btf_rewrite_model.specs.Made.{struct}
use Rattle.btf_plain.specs.Items.{member_words}
use Rattle.btf_plain.specs.declared.items.BtfMember.{BtfMember}
use Rattle.btf_object.proofs.Finalizing.{struct_sized}
use Rattle.btf_object.proofs.finalize.sized.set_size.Goals as goal

pub returns-clause-made : goal.returns-clause-made
returns-clause-made c =
    let r : Record = c.in-Ok-Struct.structure in
    let count : ℕ = c.in_ok-members.members.len in
    let words : flat_map member_words c.in_ok-members.members.items ≡ r.tail = ap (flat_map member_words) c.in_ok-members.ensures ∙ sym c.members.ensures.words in
    struct_sized c.args.btf.now c.set_type.new.table c.args.type_id c.args.size count c.in-Ok-Struct.field-0.now r c.new-sized.result c.requires c.in-Ok-Struct.field-0-is c.in-Ok-Struct.ensures
    (c.in_ok-members.members.ok.0 ∙ ap (λ (ms : List BtfMember). length ms) c.in_ok-members.ensures ∙ sym c.members.ensures.count)
    (c.new-sized.ensures ∙ ap (λ (n : ℕ). struct n c.args.size count (flat_map member_words c.in_ok-members.members.items)) c.name_offset.ensures.value ∙ ap (struct r.name c.args.size count) words)
    c.set_type.ensures
